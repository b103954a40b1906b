use Rattle.matching.proofs.PatternRows.{Swept}
use Rattle.matching.proofs.pattern.search.Given as goal

abbrev pub invariant-loop-i : goal.invariant-loop-i
invariant-loop-i l = Swept l.pattern l.start l.field l.i l.row l.found
