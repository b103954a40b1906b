use Rattle.answers.specs.Lends.{LendsStoreIn}
use Rattle.machine.proofs.RunLaws.{Going}
use Rattle.machine.proofs.run.take_steps.Given as goal

abbrev pub invariant-loop-steps : goal.invariant-loop-steps
invariant-loop-steps l =
    (w : LendsStoreIn l.view l.initial.control l.store) → Going w.lends l.budget l.steps l.control
