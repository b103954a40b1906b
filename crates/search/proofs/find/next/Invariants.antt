use Prim.Native.Nat.{◌-◌, ◌<◌}
use Rattle.search.specs.Finding.{WorldOf}
use Rattle.search.proofs.FindLaws.{SoFar}
use Rattle.search.proofs.find.next.Given as goal

abbrev pub invariant-loop-from : goal.invariant-loop-from
invariant-loop-from l =
    (w : WorldOf l.search) (below : l.k < l.search.block.size) → SoFar w l.known l.k below l.lo l.from

abbrev pub decreases-loop-from : goal.decreases-loop-from
decreases-loop-from l = l.count - l.from
