-- `with_type::pair_at` meets its contract. Assumes nothing.
use native.Mathlib.Omega.{arith}
use mathlib.Core.Path.{refl}
use Rattle.with_type.proofs.pair_at.Goals as goal

pub returns-then-objects : goal.returns-then-objects
returns-then-objects c = (rw c.if-objects.true refl, omega arith)

pub returns : goal.returns
returns c = (rw c.if-objects.false refl, omega arith)
