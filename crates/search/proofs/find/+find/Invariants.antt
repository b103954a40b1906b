use Prim.Native.Nat.{◌-◌, ◌≤◌, ◌<◌}
use Rattle.search.specs.Finding.{WorldOf}
use Rattle.search.proofs.FindLaws.{LevelFrom}
use Rattle.search.proofs.find.+find.Given as goal

abbrev pub decreases-find : goal.decreases-find
decreases-find l = l.search.now.block.size - l.k

abbrev pub invariant-loop-from : goal.invariant-loop-from
invariant-loop-from l =
    (l.lo ≤ l.from)
    × ((w : WorldOf l.search) (below : l.k < l.search.block.size) → LevelFrom w l.known l.k below l.lo l.from)

abbrev pub decreases-loop-from : goal.decreases-loop-from
decreases-loop-from l = l.count - l.from
