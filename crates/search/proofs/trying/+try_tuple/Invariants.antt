use Prim.Native.Nat.{◌-◌}
use Rattle.search.proofs.trying.+try_tuple.Given as goal

abbrev pub decreases-try_tuple : goal.decreases-try_tuple
decreases-try_tuple l = l.block.now.size - l.k
