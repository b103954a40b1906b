-- `scan::least_by_graph` meets its contract. The graphs passed give the best so far, and the next graph starts where their stretch ends. Assumes nothing.
use native.Mathlib.Omega.{arith}
use mathlib.Core.Path.{ap, ◌∙◌}
use Rattle.keys.specs.Keys.{rising}
use Rattle.keys.proofs.Rise.{keys-all}
use Rattle.scan.proofs.StretchScan.{started, ends}
use Rattle.scan.proofs.Graphs.{passed}
use Rattle.scan.proofs.least_by_graph.Goals as goal

pub loop-i-init : goal.loop-i-init
loop-i-init c = (omega arith, c.requires.end_le_sought_code, started _ _ _ _ _, λ j k a b d. absurd (omega arith))

pub least_by_stretch-best-requires : goal.least_by_stretch-best-requires
least_by_stretch-best-requires c = record { keys_value = c.requires.keys_value; end_le_sought_code = c.loop-i.invariant.1 }

pub upper-i-requires : goal.upper-i-requires
upper-i-requires c = record { n_in_bounds = omega arith; keys_value = ap rising (keys-all _) ∙ c.requires.keys_value }

pub loop-i-smaller : goal.loop-i-smaller
loop-i-smaller c =
    let t = passed c.args.codes _ _ c.graph_of-graph.ensures.1 c.requires.sought_code_lt_graph _ _ (ap rising (keys-all _) ∙ c.requires.keys_value) _ c.loop-i-test.true c.graph_of-graph.ensures.0 _ c.upper-i.ensures.splits
    c.loop-i.invariant.3 _ _ _ c.loop-i.invariant.2 c.least_by_stretch-best.ensures in
    omega (arith, t.0)

pub loop-i-preserved : goal.loop-i-preserved
loop-i-preserved c =
    let t = passed c.args.codes _ _ c.graph_of-graph.ensures.1 c.requires.sought_code_lt_graph _ _ (ap rising (keys-all _) ∙ c.requires.keys_value) _ c.loop-i-test.true c.graph_of-graph.ensures.0 _ c.upper-i.ensures.splits
    c.loop-i.invariant.3 _ _ _ c.loop-i.invariant.2 c.least_by_stretch-best.ensures in
    (c.upper-i.ensures.splits.within, omega (arith, t.1, c.loop-i.invariant.1), t.2, t.3)

pub returns : goal.returns
returns c = ends _ _ _ _ _ _ _ c.loop-i.invariant.2 c.loop-i-test.false
