use Prim.Native.Nat.{◌-◌}
use Rattle.search.specs.Finding.{WorldOf, PassedTo}
use Rattle.search.proofs.find.hope.Given as goal

abbrev pub invariant-loop-lo : goal.invariant-loop-lo
invariant-loop-lo l =
    (w : WorldOf l.search) → PassedTo w l.known l.j 0 l.lo

abbrev pub decreases-loop-lo : goal.decreases-loop-lo
decreases-loop-lo l = l.count - l.lo
