-- The loop: the numbers from the offset on are right.
use native.Mathlib.Omega.{arith}
use Rattle.ends.proofs.EndLaws.{none_filled, all-filled, turn-bounds, turn}
use Rattle.ends.proofs.fill_ends.Goals as goal

pub loop-at-init : goal.loop-at-init
loop-at-init c = none_filled _ _

pub overflow_cast-ends : goal.overflow_cast-ends
overflow_cast-ends c = omega (arith, turn-bounds _ _ _ c.loop-at-test.true c.loop-at.auto.at c.loop-at.invariant)

pub loop-at-preserved : goal.loop-at-preserved
loop-at-preserved c = turn _ _ _ c.loop-at-test.true c.loop-at.auto.at c.loop-at.invariant _ (omega arith) c.end_at.ensures

pub returns : goal.returns
returns c = record { ended = all-filled _ _ _ (omega arith) c.loop-at.invariant; room = omega arith }
