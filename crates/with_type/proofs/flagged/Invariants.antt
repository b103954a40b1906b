use Prim.Native.Nat.{ℕ, ◌<◌}
use mathlib.Core.Path.{◌≡◌}
use mathlib.Core.Bool.{false, ◌||◌}
use lib.ListN.{length, get_or}
use Rattle.definitions.specs.Limits.{variable_limit}
use Rattle.laws.specs.Lists.{flag}
use Rattle.with_type.specs.WithType.{pair_at}
use Rattle.with_type.proofs.flagged.Given as goal

abbrev pub invariant-loop-other : goal.invariant-loop-other
invariant-loop-other l =
    (length l.more ≡ variable_limit) × ((k : ℕ) → k < l.other → get_or l.more k false ≡ flag l.flags k || flag l.edges (pair_at l.objects l.x k))
