use Prim.Native.Nat.{◌-◌}
use Rattle.search.proofs.find.+find_after.Given as goal

abbrev pub decreases-find_after : goal.decreases-find_after
decreases-find_after l = l.search.now.block.size - l.k
