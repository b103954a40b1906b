use mathlib.Core.Path.{◌≡◌}
use Prim.Native.Nat.{◌<◌}
use Rattle.facts.specs.UnionFind.{parent, root_in}
use Rattle.facts.specs.Tables.{node_limit}
use Rattle.facts.proofs.families.Families.root.Given as goal

abbrev pub invariant-loop-up : goal.invariant-loop-up
invariant-loop-up l = (l.at < node_limit) × (l.up ≡ parent l.self.parents l.at) × (root_in l.self.parents l.at ≡ root_in l.self.parents l.node)

abbrev pub decreases-loop-up : goal.decreases-loop-up
decreases-loop-up l = l.at
