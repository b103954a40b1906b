use mathlib.Core.Path.{◌≡◌}
use Prim.Native.Nat.{◌≤◌}
use Rattle.search.specs.Finding.{types_block, any_under}
use Rattle.search.proofs.types.any_under.Given as goal

abbrev pub invariant-loop-i : goal.invariant-loop-i
invariant-loop-i l = (l.i ≤ types_block) × (l.found ≡ any_under l.leasts l.below l.from l.i)
