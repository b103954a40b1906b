-- `readoff::all_closed` meets its contract. Invariant: all below `x` pass.
use native.Mathlib.Omega.{arith}
use mathlib.Core.Bool.{true}
use Rattle.readoff.proofs.ReadOffLaws.{below_none, below_more, below_fails, below-done}
use Rattle.readoff.proofs.all_closed.Goals as goal

pub loop-x-init : goal.loop-x-init
loop-x-init c = below_none _

pub closed-requires : goal.closed-requires
closed-requires c = (c.requires.0, omega arith, c.requires.1)

pub returns-then-not-closed : goal.returns-then-not-closed
returns-then-not-closed c = below_fails _ _ _ c.loop-x-test.true c.closed.ensures c.if-not-closed.true

pub loop-x-preserved : goal.loop-x-preserved
loop-x-preserved c = below_more _ _ c.loop-x.invariant c.closed.ensures c.if-not-closed.false

pub returns : goal.returns
returns c = below-done _ _ _ (omega arith) (omega arith) c.loop-x.invariant
