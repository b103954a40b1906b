-- `machine::run::take_steps` meets its contract.
use native.Mathlib.Omega.{arith}
use Rattle.machine.proofs.RunLaws.{sets-out, stored-now, steps_on, stops-here, spent-here}
use Rattle.machine.proofs.run.take_steps.Goals as goal

pub loop-steps-init : goal.loop-steps-init
loop-steps-init c = λ w. sets-out w.lends _

pub step-requires : goal.step-requires
step-requires c = record { lends_store = stored-now c.requires.lends_store.lends _ _ _ (c.loop-steps.invariant c.requires.lends_store) c.requires.lends_store.stored }

pub returns-in-Err : goal.returns-in-Err
returns-in-Err c =
    λ w. stops-here w.lends _ _ _ (c.loop-steps.invariant w) (omega arith) _ (c.in-Err.ensures (stored-now w.lends _ _ _ (c.loop-steps.invariant w) w.stored))

pub loop-steps-preserved : goal.loop-steps-preserved
loop-steps-preserved c =
    λ w. steps_on w.lends _ _ _ (c.loop-steps.invariant w) (omega arith) _ (c.in-Ok.ensures (stored-now w.lends _ _ _ (c.loop-steps.invariant w) w.stored))

pub look-ending-requires : goal.look-ending-requires
look-ending-requires c = record { lends_store = stored-now c.requires.lends_store.lends _ _ _ (c.loop-steps.invariant c.requires.lends_store) c.requires.lends_store.stored }

pub returns : goal.returns
returns c = λ w. spent-here w.lends _ _ _ (c.loop-steps.invariant w) c.loop-steps-test.false _ (c.look-ending.ensures (stored-now w.lends _ _ _ (c.loop-steps.invariant w) w.stored))
