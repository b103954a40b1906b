use mathlib.Core.Path.{sym, ◌∙◌}
use mathlib.Core.Bool.{true, false}
use Rattle.store.proofs.GraphLaws.{paged-is, room-left}
use Rattle.store.proofs.graphs.with_page.Goals as goal

pub returns-then-is_fetched : goal.returns-then-is_fetched
returns-then-is_fetched c =
    sym (paged-is c.args.store c.args.graph c.args.quads true (sym c.is_fetched.ensures ∙ c.if-is_fetched.true))

pub bounds-next-place : goal.bounds-next-place
bounds-next-place c =
    room-left c.args.store c.args.graph c.args.quads _ c.is_fetched.ensures c.if-is_fetched.false c.requires.graph_value

pub returns : goal.returns
returns c =
    sym (paged-is c.args.store c.args.graph c.args.quads false (sym c.is_fetched.ensures ∙ c.if-is_fetched.false))
