-- `facts::families::Families::fresh` meets its contract. Invariant: each node before this one is its own parent. Assumes nothing.
use Prim.Native.Nat.{◌-◌}
use native.Mathlib.Omega.{arith}
use mathlib.Core.Path.{refl}
use lib.ListN.{length-set}
use Rattle.laws.proofs.Fill.{filled_more}
use Rattle.facts.specs.Tables.{node_limit}
use Rattle.facts.proofs.UnionFind.{up_is}
use Rattle.facts.proofs.families.Families.fresh.Goals as goal

pub loop-node-init : goal.loop-node-init
loop-node-init c = (refl, λ k l. absurd (omega arith))

pub loop-node-preserved : goal.loop-node-preserved
loop-node-preserved c =
    (rw length-set c.loop-node.invariant.0, filled_more 0 (λ k. k) c.loop-node.parents c.loop-node.node (omega arith) c.loop-node.invariant.1 c.narrow.ensures)

pub returns : goal.returns
returns c = up_is node_limit _ c.loop-node.invariant.0 (λ k l. c.loop-node.invariant.1 k (omega arith))
