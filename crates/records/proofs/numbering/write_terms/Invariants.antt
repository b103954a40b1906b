use Prim.Native.Nat.{◌-◌}
use lib.ListN.{length}
use Rattle.records.proofs.NumberingLaws.{Writing}
use Rattle.records.proofs.numbering.write_terms.Given as goal

abbrev pub invariant-loop-at : goal.invariant-loop-at
invariant-loop-at l = Writing l.terms l.table l.hashes l.at l.n

abbrev pub decreases-loop-at : goal.decreases-loop-at
decreases-loop-at l = length l.terms - l.at
