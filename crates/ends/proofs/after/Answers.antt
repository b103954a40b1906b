-- `ends::after` meets its contract.
use native.Mathlib.Omega.{arith}
use mathlib.Core.Path.{refl}
use borrow.Author.Tests.{lt-ltb, le-ltb}
use Rattle.laws.specs.Ends.{after_in}
use Rattle.ends.proofs.after.Goals as goal

pub overflow_cast-result : goal.overflow_cast-result
overflow_cast-result c = omega (arith, c.type_inv.ends c.args.at)

pub returns-then-at-n : goal.returns-then-at-n
unfolding after_in
returns-then-at-n c = rw (lt-ltb _ _ c.if-at-n.true) refl

pub returns-else-at-n : goal.returns-else-at-n
unfolding after_in
returns-else-at-n c = rw (le-ltb _ _ c.if-at-n.false) refl
