-- `ordering::take_page` meets its contract. By what its callees ensure. Assumes nothing.
use native.Mathlib.Omega.{arith}
use Rattle.std.proofs.lemmas.Grind.{common_steps}
use Rattle.ordering.proofs.Page.{front-rises, new-rises, kept-rises, taken, page-rises}
use Rattle.ordering.proofs.take_page.Goals as goal

pub drop_graph-kept-requires-clause-keys_value : goal.drop_graph-kept-requires-clause-keys_value
drop_graph-kept-requires-clause-keys_value c = front-rises c.args.graph c.args.keys.now c.args.n (omega arith) c.requires.keys_value

pub merge-count-requires-clause-a_value : goal.merge-count-requires-clause-a_value
merge-count-requires-clause-a_value c = new-rises c.args.fresh.now c.sort-new.new.keys c.sort-new.result (grind (arith, common_steps)) c.sort-new.ensures.sorted

pub merge-count-requires-clause-b_value : goal.merge-count-requires-clause-b_value
merge-count-requires-clause-b_value c =
    kept-rises c.args.graph c.args.keys.now c.args.n (omega arith) c.requires.keys_value c.drop_graph-kept.new.keys _ c.drop_graph-kept.result (grind (arith, common_steps)) c.drop_graph-kept.ensures.upper_bound c.drop_graph-kept.ensures.keys_after

pub returns-clause-keys_after : goal.returns-clause-keys_after
returns-clause-keys_after c =
    taken c.args.graph c.args.keys.now c.args.n (omega arith) c.requires.keys_value c.drop_graph-kept.new.keys _ c.drop_graph-kept.result (grind (arith, common_steps)) c.drop_graph-kept.ensures.upper_bound c.drop_graph-kept.ensures.keys_after
    c.args.fresh.now c.sort-new.new.keys c.sort-new.result (grind (arith, common_steps)) c.sort-new.ensures.sorted c.merge-count.result c.merge-count.new.out c.copy_from_slice.new.self _ (grind (arith, common_steps)) (grind (arith, common_steps)) c.merge-count.ensures.out_after

pub returns-clause-keys_after_2 : goal.returns-clause-keys_after_2
returns-clause-keys_after_2 c =
    page-rises c.args.graph c.args.keys.now c.args.n c.requires.keys_value c.args.fresh.now _ (returns-clause-keys_after c)
