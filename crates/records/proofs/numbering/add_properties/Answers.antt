-- `records::numbering::add_properties` meets its contract. The loop keeps what is asked of the rest equal to what is asked of the whole, and the hashes of the terms so far.
use Prim.Native.Nat.{◌-◌, ◌+◌}
use native.Mathlib.Omega.{arith}
use mathlib.Core.Path.{sym, ◌∙◌}
use Rattle.definitions.specs.Limits.{text_width}
use lib.ListN.{length-take, drop}
use Rattle.fields.proofs.SameLaws.{entry-inside}
use Rattle.records.proofs.NumberingLaws.{held-width, held-holds, count-hashed, full-hashed, entry-good, property-slot, adding-start, adding-end, adding-next, adding-full}
use Rattle.records.proofs.numbering.add_properties.Goals as goal

pub loop-at-init : goal.loop-at-init
loop-at-init c = (
  adding-start _ _ _ (λ k. omega (arith, c.type_inv.table k)) c.requires.schema_value c.requires.holds_terms,
  c.requires.hashes_len,
  c.requires.hashed,
)

pub overflow_add-field : goal.overflow_add-field
overflow_add-field c = omega (arith, entry-inside _ _ (entry-good _ _ _ _ _ c.loop-at.invariant.0 c.loop-at-test.true))

pub overflow_add-end : goal.overflow_add-end
overflow_add-end c = omega (arith, entry-inside _ _ (entry-good _ _ _ _ _ c.loop-at.invariant.0 c.loop-at-test.true))

pub slice_bounds-slot_of-count : goal.slice_bounds-slot_of-count
slice_bounds-slot_of-count c = omega (arith, entry-inside _ _ (entry-good _ _ _ _ _ c.loop-at.invariant.0 c.loop-at-test.true))

pub slice_bounds-slot_of-start : goal.slice_bounds-slot_of-start
slice_bounds-slot_of-start c = omega (arith, entry-inside _ _ (entry-good _ _ _ _ _ c.loop-at.invariant.0 c.loop-at-test.true))

pub slice_bounds-slot_of-end : goal.slice_bounds-slot_of-end
slice_bounds-slot_of-end c = omega (arith, entry-inside _ _ (entry-good _ _ _ _ _ c.loop-at.invariant.0 c.loop-at-test.true))

pub slot_of-slot-requires : goal.slot_of-slot-requires
slot_of-slot-requires c =
    omega (
      arith,
      entry-inside _ _ (entry-good _ _ _ _ _ c.loop-at.invariant.0 c.loop-at-test.true),
      length-take (c.loop-at.at + 1 + text_width - (c.loop-at.at + 1))
          (drop (c.loop-at.at + 1) c.args.schema.now),
    )

pub add_term-joined-requires : goal.add_term-joined-requires
add_term-joined-requires c = record { holds_terms = held-holds _ _ _ c.loop-at.invariant.0.held; hashes_len = c.loop-at.invariant.1; hashed = c.loop-at.invariant.2; good_slot = property-slot _ _ _ _ _ c.loop-at.invariant.0 c.loop-at-test.true c.slot_of-slot.ensures }

pub shape_of-table-then-used-gt-TERM_LIMIT : goal.shape_of-table-then-used-gt-TERM_LIMIT
shape_of-table-then-used-gt-TERM_LIMIT c =
    c.add_term-joined.auto.table ∙ held-width _ _ _ c.loop-at.invariant.0.held ∙ sym c.requires.holds_terms.width

pub shape_of-hashes-then-used-gt-TERM_LIMIT : goal.shape_of-hashes-then-used-gt-TERM_LIMIT
shape_of-hashes-then-used-gt-TERM_LIMIT c =
    c.add_term-joined.auto.hashes ∙ c.loop-at.invariant.1 ∙ sym c.requires.hashes_len

pub returns-then-used-gt-TERM_LIMIT : goal.returns-then-used-gt-TERM_LIMIT
returns-then-used-gt-TERM_LIMIT c =
    let p = adding-full _ _ _ _ _ c.loop-at.invariant.0 c.loop-at-test.true c.slot_of-slot.ensures c.add_term-joined.ensures.terms_value c.add_term-joined.ensures.table_after c.if-used-gt-TERM_LIMIT.true in
    (p.0, p.1, full-hashed _ c.add_term-joined.new.hashes)

pub overflow_add-at : goal.overflow_add-at
overflow_add-at c =
    omega (arith, entry-inside _ _ (entry-good _ _ _ _ _ c.loop-at.invariant.0 c.loop-at-test.true))

pub loop-at-smaller : goal.loop-at-smaller
loop-at-smaller c =
    omega (arith, entry-inside _ _ (entry-good _ _ _ _ _ c.loop-at.invariant.0 c.loop-at-test.true))

pub loop-at-preserved : goal.loop-at-preserved
loop-at-preserved c = (
  adding-next _ _ _ _ _ c.loop-at.invariant.0 c.loop-at-test.true c.slot_of-slot.ensures c.add_term-joined.ensures.terms_value c.add_term-joined.ensures.table_after c.if-used-gt-TERM_LIMIT.false,
  c.add_term-joined.auto.hashes ∙ c.loop-at.invariant.1,
  c.add_term-joined.ensures.hashed_2 c.if-used-gt-TERM_LIMIT.false,
)

pub shape_of-table : goal.shape_of-table
shape_of-table c = held-width _ _ _ c.loop-at.invariant.0.held ∙ sym c.requires.holds_terms.width

pub shape_of-hashes : goal.shape_of-hashes
shape_of-hashes c = c.loop-at.invariant.1 ∙ sym c.requires.hashes_len

pub returns : goal.returns
returns c = let p = adding-end _ _ _ _ _ c.loop-at.invariant.0 c.loop-at-test.false in (p.0, p.1, count-hashed _ c.loop-at.hashes _ c.loop-at.invariant.2)
