-- `graph_tests::is_graph` meets its contract, by what soundness proves of the codes of URIs.
use native.Mathlib.Omega.{arith}
use mathlib.Core.Path.{◌∙◌}
use borrow.Author.Tests.{le-ltb}
use Rattle.graph_tests.proofs.GraphLaws.{graph-number, graph-past}
use Rattle.graph_tests.proofs.is_graph.Goals as goal

pub returns-then-graph-count : goal.returns-then-graph-count
returns-then-graph-count c =
    λ S terms codes e. graph-number c.args.leasts.now c.args.count c.args.graph S terms codes e c.is_uri.ensures

pub returns-else-graph-count : goal.returns-else-graph-count
returns-else-graph-count c =
    λ S terms codes e. graph-number c.args.leasts.now c.args.count c.args.graph S terms codes e
    (le-ltb c.args.graph c.args.count (omega arith) ∙ graph-past c.args.leasts.now c.args.count c.args.graph (omega arith))
