use Prim.Native.Nat.{◌≤◌}
use Rattle.gathering.proofs.EntryLaws.{Counting}
use Rattle.gathering.proofs.entries.entry_count.Given as goal

abbrev pub invariant-loop-i : goal.invariant-loop-i
invariant-loop-i l = (l.entries ≤ l.i) × Counting l.subjects l.entries l.i
