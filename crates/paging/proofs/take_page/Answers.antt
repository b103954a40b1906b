-- `paging::take_page` meets its contract: a law of PageLaws for each refusal.
use mathlib.Core.Path.{sym, ◌∙◌}
use borrow.Author.Tests.{not-true, not-false}
use Rattle.definitions.specs.Calls.{Lent}
use Rattle.laws.proofs.ReadAnswers.{is-some, is_none}
use Rattle.lengths.specs.Lent.{lent_of}
use Rattle.query.proofs.TermLaws.{few}
use Rattle.paging.proofs.PageLaws.{entry-refused, refused-12, refused-13}
use borrow.Author.Rules.{rules}
use Rattle.paging.proofs.take_page.Goals as goal

pub returns-in_err-entered : goal.returns-in_err-entered
returns-in_err-entered c =
    let lent_at : Lent = lent_of c.args.ranks.now c.args.terms.now c.args.schema.now c.args.script.now c.args.table.now c.args.store.now in
    entry-refused lent_at c.args.saved c.args.graph c.args.page.now c.in_err-entered.ensures {r = c.from_residual.result} (search rules)

pub is_graph-requires : goal.is_graph-requires
is_graph-requires c =
    let x = c.in_ok-entered.ensures in record { count_in_bounds = (x.2.lent 0).room; count_le_term_limit = few _ _ _ (x.2.lent 0).tabled }

pub returns-then-not-is_graph : goal.returns-then-not-is_graph
returns-then-not-is_graph c =
    let lent_at : Lent = lent_of c.args.ranks.now c.args.terms.now c.args.schema.now c.args.script.now c.args.table.now c.args.store.now in
    let x = c.in_ok-entered.ensures in
    refused-12 lent_at c.args.saved c.args.graph c.args.page.now x.0 x.1
    (sym (c.is_graph.ensures x.0.checked.schema x.0.state.store.terms (x.2.lent 0).least_of (sym (x.2.lent 0).tabled.counted)) ∙ c.if-not-is_graph.true)

pub returns-then-not-page_ok : goal.returns-then-not-page_ok
returns-then-not-page_ok c =
    let lent_at : Lent = lent_of c.args.ranks.now c.args.terms.now c.args.schema.now c.args.script.now c.args.table.now c.args.store.now in
    let x = c.in_ok-entered.ensures in
    refused-13 lent_at c.args.saved c.args.graph c.args.page.now x.0 x.1
    (sym (c.is_graph.ensures x.0.checked.schema x.0.state.store.terms (x.2.lent 0).least_of (sym (x.2.lent 0).tabled.counted)) ∙ c.if-not-is_graph.false)
    (is_none _ (sym c.page_ok.ensures ∙ c.if-not-page_ok.true))

-- what has passed refusals 1 to 13
pub take-requires : goal.take-requires
take-requires c =
    let x = c.in_ok-entered.ensures in
    let rs = is-some _ (sym c.page_ok.ensures ∙ c.if-not-page_ok.false) in (
      c.args.ranks.now,
      record {
        found = x.0;
        entered = x.1;
        count = sym (x.2.lent 0).tabled.counted;
        hashed = x.2.hashed;
        is_uri =
            (sym (c.is_graph.ensures x.0.checked.schema x.0.state.store.terms (x.2.lent 0).least_of (sym (x.2.lent 0).tabled.counted)) ∙ c.if-not-is_graph.false);
        triples = rs.0;
        reads = rs.1;
      },
    )

pub returns : goal.returns
returns c =
    let x = c.in_ok-entered.ensures in
    let rs = is-some _ (sym c.page_ok.ensures ∙ c.if-not-page_ok.false) in
    c.take.ensures c.args.ranks.now (record {
      found = x.0;
      entered = x.1;
      count = sym (x.2.lent 0).tabled.counted;
      hashed = x.2.hashed;
      is_uri =
          (sym (c.is_graph.ensures x.0.checked.schema x.0.state.store.terms (x.2.lent 0).least_of (sym (x.2.lent 0).tabled.counted)) ∙ c.if-not-is_graph.false);
      triples = rs.0;
      reads = rs.1;
    })
