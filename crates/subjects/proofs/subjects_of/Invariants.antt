use Prim.Native.Nat.{◌*◌, ◌-◌, ◌≤◌}
use lib.ListN.{length}
use Rattle.subjects.specs.Room.{asking_width}
use Rattle.subjects.proofs.PageLaws.{Going}
use Rattle.subjects.proofs.subjects_of.Given as goal

abbrev pub invariant-loop-at : goal.invariant-loop-at
invariant-loop-at l = (l.at ≤ length l.page) × (l.subjects.count * asking_width ≤ l.at) × Going l.page l.at l.subjects

abbrev pub decreases-loop-at : goal.decreases-loop-at
decreases-loop-at l = length l.page - l.at
