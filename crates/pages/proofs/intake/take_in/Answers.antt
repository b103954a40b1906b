-- `pages::intake::take_in` meets its contract.
use Prim.Native.Nat.{ℕ}
use native.Mathlib.Omega.{arith}
use mathlib.Core.Path.{sym, ap, ◌∙◌}
use Rattle.definitions.specs.Saved.{quad_table}
use Rattle.keys.proofs.Quads.{rows-front}
use lib.ListN.{length-replicate}
use Rattle.definitions.specs.Limits.{term_table_width, quad_table_width}
use Rattle.pages.specs.Room.{record_limit, gathered_limit}
use Rattle.records.proofs.NumberingLaws.{held-width}
use Rattle.pages.proofs.TakeLaws.{quads-width}
use Rattle.std.proofs.lemmas.Grind.{common_steps}
use Rattle.pages.proofs.DoneLaws.{gathered-front, empty-table, took_of, graphs-over, no_room, has_room, not_done, terms-passed, quads-passed, done}
use Rattle.pages.proofs.intake.take_in.Goals as goal

pub returns-then-not-graph_fits : goal.returns-then-not-graph_fits
returns-then-not-graph_fits c =
    λ S rs σ e r h. not_done S c.args.graph rs σ c.args.store c.args.lent.now c.args.stored.now _ c.refused.ensures
    (graphs-over S c.args.graph rs σ (no_room c.args.lent.now c.args.stored.now c.args.n c.args.store σ h c.args.graph (sym c.graph_fits.ensures ∙ c.if-not-graph_fits.true)))

pub take_copies-end-requires : goal.take_copies-end-requires
take_copies-end-requires c = record { page_reads = c.requires.page_reads; page_len_bound = c.requires.page_len_bound; reads = c.requires.reads; held = (c.requires.held_tables.0.terms, c.requires.held_tables.1.terms); terms_len = length-replicate {A = ℕ} term_table_width 0; keys_len = length-replicate {A = ℕ} record_limit 0 }

pub returns-then-end-gt-TERM_LIMIT : goal.returns-then-end-gt-TERM_LIMIT
returns-then-end-gt-TERM_LIMIT c =
    λ S rs σ e r h. not_done S c.args.graph rs σ c.args.store c.args.lent.now c.args.stored.now _ c.refused-then-end-gt-TERM_LIMIT.ensures (terms-passed S c.args.graph rs σ c.args.store c.args.lent.now
    c.args.stored.now _ _ _ (took_of S c.args.graph rs σ c.args.lent.now c.args.stored.now c.args.n c.args.store h _ _ _ (λ ts o. c.take_copies-end.ensures.took S rs ts o e r)) c.if-end-gt-TERM_LIMIT.true)

pub put_in_order-count-requires : goal.put_in_order-count-requires
put_in_order-count-requires c = record {
  held_some = (c.requires.held_tables.0.quads, c.requires.held_tables.1.quads);
  fresh_len_bound = grind (arith, common_steps, c.take_copies-end.ensures.keys_le_record_limit);
  keys_len = length-replicate {A = ℕ} gathered_limit 0;
}

pub returns-then-too_many : goal.returns-then-too_many
returns-then-too_many c =
    λ S rs σ e r h. not_done S c.args.graph rs σ c.args.store c.args.lent.now c.args.stored.now _ c.refused-then-too_many.ensures (quads-passed S c.args.graph rs σ c.args.store c.args.lent.now
    c.args.stored.now _ _ _ (took_of S c.args.graph rs σ c.args.lent.now c.args.stored.now c.args.n c.args.store h _ _ _ (λ ts o. c.take_copies-end.ensures.took S rs ts o e r)) c.if-end-gt-TERM_LIMIT.false _ _
    (λ after k. c.put_in_order-count.ensures.value σ.quads after h.quads (gathered-front _ _ _ _ (omega (arith, c.take_copies-end.ensures.keys_le_record_limit, c.take_copies-end.auto.keys, length-replicate {A = ℕ} record_limit 0)) k)) c.if-too_many.true)

pub write_keys-requires : goal.write_keys-requires
write_keys-requires c = record { keys_len_bound = grind (arith, common_steps); table_value = empty-table }

pub copy_from_slice-requires : goal.copy_from_slice-requires
copy_from_slice-requires c =
    omega (arith, held-width _ _ _ c.requires.held_tables.1.terms, c.take_copies-end.auto.terms, length-replicate {A = ℕ} term_table_width 0)

pub copy_from_slice-requires-2 : goal.copy_from_slice-requires-2
copy_from_slice-requires-2 c =
    omega (arith, quads-width _ _ _ c.requires.held_tables.1.quads, c.write_keys.auto.table, length-replicate {A = ℕ} quad_table_width 0)

pub with_page-after-requires : goal.with_page-after-requires
with_page-after-requires c = record { graphs_le_graph_limit = c.requires.held_tables.1.graphs; graph_value = sym c.graph_fits.ensures ∙ c.if-not-graph_fits.false }

pub returns : goal.returns
returns c =
    λ S rs σ e r h. done S c.args.graph rs σ c.args.store c.args.lent.now c.args.stored.now _ _ c.take_copies-end.result (took_of S c.args.graph rs σ c.args.lent.now c.args.stored.now c.args.n
    c.args.store h _ _ _ (λ ts o. c.take_copies-end.ensures.took S rs ts o e r)) c.if-end-gt-TERM_LIMIT.false _ _ (λ after k. c.put_in_order-count.ensures.value σ.quads after h.quads (gathered-front _ _ _ _ (omega (arith, c.take_copies-end.ensures.keys_le_record_limit, c.take_copies-end.auto.keys, length-replicate {A = ℕ} record_limit 0)) k))
    (held-width _ _ _ h.terms) (quads-width _ _ _ h.quads) c.if-too_many.false (has_room c.args.lent.now c.args.stored.now c.args.n c.args.store σ h c.args.graph
    (sym c.graph_fits.ensures ∙ c.if-not-graph_fits.false)) _ _ _ (c.write_keys.ensures ∙ ap quad_table (rows-front _ _ (grind (arith, common_steps)))) c.copy_from_slice.ensures.after c.copy_from_slice-2.ensures.after _ c.with_page-after.ensures
