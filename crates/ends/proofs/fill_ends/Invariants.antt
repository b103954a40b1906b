use Rattle.ends.proofs.EndLaws.{Filled}
use Rattle.ends.proofs.fill_ends.Given as goal

abbrev pub invariant-loop-at : goal.invariant-loop-at
invariant-loop-at l = Filled l.script l.ends l.at
