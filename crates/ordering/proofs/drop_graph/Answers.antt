-- `ordering::drop_graph` meets its contract. Those before the graph's stretch stay, those after it move down. Assumes nothing.
use mathlib.Core.Path.{refl, sym, ap, ◌∙◌}
use native.Mathlib.Omega.{arith}
use lib.ListN.{length-set}
use Rattle.keys.specs.Keys.{rising}
use Rattle.keys.proofs.Rise.{ordered, keys-all}
use Rattle.ordering.specs.Sets.{others}
use Rattle.ordering.proofs.Others.{around, down, all-down}
use Rattle.ordering.proofs.drop_graph.Goals as goal

pub lower-kept-requires : goal.lower-kept-requires
lower-kept-requires c = record { n_in_bounds = omega arith; keys_value = ap rising (keys-all _) ∙ c.requires.keys_value }

pub upper-next-requires : goal.upper-next-requires
upper-next-requires c = record { n_in_bounds = omega arith; keys_value = ap rising (keys-all _) ∙ c.requires.keys_value }

pub loop-i-init : goal.loop-i-init
loop-i-init c = record {
  below = ordered _ _ _ _ _ _ c.lower-kept.ensures.splits c.upper-next.ensures.splits (omega arith);
  size = refl;
  left = sym (ap (others c.args.graph) (keys-all c.args.keys.now)) ∙ around _ _ _ _ _ c.lower-kept.ensures.splits c.upper-next.ensures.splits;
}

pub loop-i-preserved : goal.loop-i-preserved
loop-i-preserved c = record {
  below = omega arith;
  size = simp length-set c.loop-i.invariant.size;
  left = down _ _ _ _ _ c.loop-i.invariant.left c.loop-i.invariant.below c.loop-i-test.true (omega arith);
}

pub returns-clause-keys_after : goal.returns-clause-keys_after
returns-clause-keys_after c = all-down _ _ _ _ _ c.loop-i.invariant.left c.loop-i-test.false
