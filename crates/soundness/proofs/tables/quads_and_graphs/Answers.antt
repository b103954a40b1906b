-- `soundness::tables::quads_and_graphs` meets its contract. Each return is one law.
use native.Mathlib.Omega.{arith}
use mathlib.Core.Bool.{false≢true}
use mathlib.Core.Path.{sym, ◌∙◌}
use Rattle.keys.proofs.Quads.{table-order}
use Rattle.sound_quads.proofs.QuadLaws.{held-few, rows_of}
use Rattle.soundness.proofs.Clauses.{not-held, bad-graphs, quads-out, quads-all}
use mathlib.Core.Path.{ap}
use mathlib.Core.Bool.{not}
use Rattle.soundness.proofs.tables.quads_and_graphs.Goals as goal

pub returns-then-not-quads_held : goal.returns-then-not-quads_held
returns-then-not-quads_held c = record { value = not-held _ _ _ _ _ c.quads_held.ensures (ap not c.if-not-quads_held.true); in_order = λ e. absurd (false≢true e) }

pub returns-then-not-graphs_sound : goal.returns-then-not-graphs_sound
returns-then-not-graphs_sound c = record { value = bad-graphs _ _ _ _ _ c.quads_held.ensures (ap not c.if-not-quads_held.false) c.graphs_sound.ensures (ap not c.if-not-graphs_sound.true); in_order = λ e. absurd (false≢true e) }

pub read_keys-requires : goal.read_keys-requires
read_keys-requires c = record { table_len = c.requires.quads_len; count_le_quad_limit = held-few _ _ c.quads_held.ensures (ap not c.if-not-quads_held.false); count_in_bounds = omega (arith, held-few _ _ c.quads_held.ensures (ap not c.if-not-quads_held.false), c.requires.quad_limit_in_bounds) }

pub quads_in_order-requires : goal.quads_in_order-requires
quads_in_order-requires c =
    omega (arith, held-few _ _ c.quads_held.ensures (ap not c.if-not-quads_held.false), c.requires.quad_limit_in_bounds, c.keys-1.given)

pub returns-then-not-quads_in_order : goal.returns-then-not-quads_in_order
returns-then-not-quads_in_order c = record {
  value = quads-out _ _ _ _ _ c.quads_held.ensures (ap not c.if-not-quads_held.false) c.graphs_sound.ensures (ap not c.if-not-graphs_sound.false) _
      (rows_of _ (λ j. omega (arith, c.type_inv.quads j)) _ _ c.read_keys.ensures) c.quads_in_order.ensures
      (ap not c.if-not-quads_in_order.true);
  in_order = λ e. absurd (false≢true e);
}

pub quads_sound-requires : goal.quads_sound-requires
quads_sound-requires c = record { count_in_bounds = c.requires.count_in_bounds; n_in_bounds = omega (arith, held-few _ _ c.quads_held.ensures (ap not c.if-not-quads_held.false), c.requires.quad_limit_in_bounds, c.keys-1.given) }

pub returns : goal.returns
returns c =
    let rows = rows_of _ (λ j. omega (arith, c.type_inv.quads j)) _ _ c.read_keys.ensures in record {
      value = quads-all _ _ _ _ _ c.quads_held.ensures (ap not c.if-not-quads_held.false) c.graphs_sound.ensures (ap not c.if-not-graphs_sound.false) _ rows c.quads_in_order.ensures (ap not c.if-not-quads_in_order.false)
          c.quads_sound.ensures;
      in_order = λ e. record {
        rows = rows;
        rises = sym (table-order _ (λ j. omega (arith, c.slice_known-2-1.given j)) _) ∙ (sym c.quads_in_order.ensures ∙ c.if-not-quads_in_order.false);
      };
    }
