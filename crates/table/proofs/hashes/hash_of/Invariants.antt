use Prim.Native.Nat.{◌*◌, ◌-◌}
use Rattle.table.specs.Hashes.{slot_words}
use Rattle.table.proofs.HashLaws.{Hashing}
use Rattle.table.proofs.hashes.hash_of.Given as goal

abbrev pub invariant-loop-at : goal.invariant-loop-at
invariant-loop-at l = Hashing l.slot l.at l.sum

abbrev pub decreases-loop-at : goal.decreases-loop-at
decreases-loop-at l = 2 * slot_words - l.at
