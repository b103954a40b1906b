-- `paging::take` meets its contract, by the laws of TakeLaws.
use native.Mathlib.Omega.{arith}
use mathlib.Core.Path.{◌≡◌}
use lib.ListN.{length}
use Rattle.definitions.specs.Limits.{variable_limit, graph_limit, depth_limit}
use Rattle.laws.proofs.Bytes.{AreBytes}
use Rattle.entry.proofs.PassedLaws.{length-mapped}
use Rattle.paging.proofs.TakeLaws.{run-low, graph-small, page-is, page-read, page-fits, schema-is, schema-read, held-store, held-tables, not_taken_lem, now-taken}
use borrow.Author.Rules.{rules}
use Rattle.paging.proofs.take.Goals as goal

pub canonical_control-clean-requires : goal.canonical_control-clean-requires
canonical_control-clean-requires c = (run-low _ _ _ _ _ _ _ _ _ _ _ c.requires.1).0

pub canonical_store-kept-requires : goal.canonical_store-kept-requires
canonical_store-kept-requires c = (run-low _ _ _ _ _ _ _ _ _ _ _ c.requires.1).1

pub overflow_cast-graph : goal.overflow_cast-graph
overflow_cast-graph c = omega (arith, graph-small _ _ _ _ _ _ _ _ _ _ _ c.requires.1)

pub take_in-done-requires : goal.take_in-done-requires
take_in-done-requires c =
    let graphs : length c.args.saved.store.fetched ≡ graph_limit = search rules in
    let bt : AreBytes c.args.table.now = λ k. omega (arith, c.slice_known-1.given k) in
    let bq : AreBytes c.args.store.now = λ k. omega (arith, c.slice_known-2-1.given k) in
    record {
      page_reads = page-read _ _ _ _ _ _ _ _ _ _ _ c.requires.1;
      page_len_bound = page-fits _ _ _ _ _ _ _ _ _ _ _ c.requires.1;
      reads = schema-read _ _ _ _ _ _ _ _ _ _ _ c.requires.1;
      held_tables = held-tables _ _ _ _ _ _ _ _ _ _ _ c.requires.1 bt bq graphs _ c.canonical_store-kept.ensures;
    }

pub returns-in_err-skipped : goal.returns-in_err-skipped
returns-in_err-skipped c =
    let graphs : length c.args.saved.store.fetched ≡ graph_limit = search rules in
    let bt : AreBytes c.args.table.now = λ k. omega (arith, c.slice_known-1.given k) in
    let bq : AreBytes c.args.store.now = λ k. omega (arith, c.slice_known-2-1.given k) in
    λ ranks p. not_taken_lem _ _ _ _ _ _ _ _ _ _ _ p bt bq graphs _ c.canonical_store-kept.ensures _ _ _
    (c.take_in-done.ensures _ _ _ (schema-is _ _ _ _ _ _ _ _ _ _ _ p) (page-is _ _ _ _ _ _ _ _ _ _ _ p)
    (held-store _ _ _ _ _ _ _ _ _ _ _ p bt bq graphs _ c.canonical_store-kept.ensures)) c.in_err-skipped.was {r' = c.from_residual.result} (search rules)

pub returns : goal.returns
returns c =
    let marks : length c.args.saved.control.bound ≡ variable_limit = search rules in
    let graphs : length c.args.saved.store.fetched ≡ graph_limit = search rules in
    let levels : length c.args.saved.control.items ≡ depth_limit = search (length-mapped, rules) in
    let bt : AreBytes c.args.table.now = λ k. omega (arith, c.slice_known-1.given k) in
    let bq : AreBytes c.args.store.now = λ k. omega (arith, c.slice_known-2-1.given k) in
    λ ranks p. now-taken _ _ _ _ _ _ _ _ _ _ _ p bt bq graphs _ c.canonical_store-kept.ensures _ _ _
    (c.take_in-done.ensures _ _ _ (schema-is _ _ _ _ _ _ _ _ _ _ _ p) (page-is _ _ _ _ _ _ _ _ _ _ _ p)
    (held-store _ _ _ _ _ _ _ _ _ _ _ p bt bq graphs _ c.canonical_store-kept.ensures)) marks levels _ c.canonical_control-clean.ensures c.in_ok-skipped.was
