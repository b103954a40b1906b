-- `soundness::tables::store_sound` meets its contract. Each return is one law.
use native.Mathlib.Omega.{arith}
use mathlib.Core.Bool.{false≢true}
use mathlib.Core.Path.{◌≡◌, sym}
use lib.ListN.{length}
use lib.Seq.{length-take-le}
use Rattle.definitions.specs.Limits.{graph_limit}
use Rattle.soundness.proofs.Clauses.{many-graphs, few-graphs}
use borrow.Author.Rules.{rules}
use Rattle.soundness.proofs.tables.store_sound.Goals as goal

pub returns-then-graphs-gt-GRAPH_LIMIT : goal.returns-then-graphs-gt-GRAPH_LIMIT
returns-then-graphs-gt-GRAPH_LIMIT c = record { value = many-graphs _ _ _ _ c.if-graphs-gt-GRAPH_LIMIT.true; in_order = λ e. absurd (false≢true e) }

pub slice_bounds-fetched-end : goal.slice_bounds-fetched-end
slice_bounds-fetched-end c =
    let l : length c.args.saved.fetched ≡ graph_limit = search (rules, c.well_formed.1.0) in
    omega (arith, l, c.if-graphs-gt-GRAPH_LIMIT.false)

pub slice_bounds-quads_and_graphs-end : goal.slice_bounds-quads_and_graphs-end
slice_bounds-quads_and_graphs-end c =
    let l : length c.args.saved.fetched ≡ graph_limit = search (rules, c.well_formed.1.0) in
    sym (length-take-le c.args.saved.graphs c.args.saved.fetched (omega (arith, l, c.if-graphs-gt-GRAPH_LIMIT.false)))

pub returns : goal.returns
returns c = record { value = few-graphs _ _ _ _ c.if-graphs-gt-GRAPH_LIMIT.false c.quads_and_graphs.ensures.value; in_order = c.quads_and_graphs.ensures.in_order }
