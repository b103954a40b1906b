use Prim.Native.Nat.{◌-◌, ◌≤◌}
use lib.ListN.{length}
use Rattle.table.specs.Hashes.{NoneWith}
use Rattle.table.proofs.hashes.find.Given as goal

abbrev pub invariant-loop-k : goal.invariant-loop-k
invariant-loop-k g l = (l.fn.from ≤ l.from) × (l.from ≤ length l.hashes) × NoneWith (λ i r. goal.F-post g l.test i r) l.hashes l.hash l.fn.from l.from

abbrev pub decreases-loop-k : goal.decreases-loop-k
decreases-loop-k g l = length l.hashes - l.from
