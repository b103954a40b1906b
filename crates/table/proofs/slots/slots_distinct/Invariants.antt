use Rattle.table.proofs.SeenLaws.{Apart}
use Rattle.table.proofs.slots.slots_distinct.Given as goal

abbrev pub invariant-loop-i : goal.invariant-loop-i
invariant-loop-i l = Apart l.table l.hashes l.n l.i l.seen
