use Prim.Native.Nat.{ℕ, ◌<◌}
use mathlib.Core.Path.{◌≡◌}
use lib.ListN.{length, get_or}
use Rattle.facts.specs.Tables.{node_limit}
use Rattle.facts.proofs.families.Families.fresh.Given as goal

abbrev pub invariant-loop-node : goal.invariant-loop-node
invariant-loop-node l = (length l.parents ≡ node_limit) × ((k : ℕ) → k < l.node → get_or l.parents k 0 ≡ k)
