-- `records::numbering::write_term` meets its contract.
use native.Mathlib.Omega.{arith}
use Rattle.records.proofs.NumberingLaws.{term-after, term-short, term-written}
use borrow.Author.Rules.{rules}
use Rattle.records.proofs.numbering.write_term.Goals as goal

pub returns-then-n-ge-TERM_LIMIT : goal.returns-then-n-ge-TERM_LIMIT
returns-then-n-ge-TERM_LIMIT c = λ t e l. absurd (omega (arith, c.if-n-ge-TERM_LIMIT.true))

pub overflow_add-body : goal.overflow_add-body
overflow_add-body c = omega (arith, term-after _ _ _ c.requires.end_value)

pub bounds-terms-at : goal.bounds-terms-at
bounds-terms-at c = omega (arith, term-after _ _ _ c.requires.end_value)

pub slice_bounds-slot_of-count : goal.slice_bounds-slot_of-count
slice_bounds-slot_of-count c = omega (arith, term-after _ _ _ c.requires.end_value)

pub slice_bounds-slot_of-start : goal.slice_bounds-slot_of-start
slice_bounds-slot_of-start c = omega (arith, term-after _ _ _ c.requires.end_value)

pub slice_bounds-slot_of-end : goal.slice_bounds-slot_of-end
slice_bounds-slot_of-end c = omega (arith, term-after _ _ _ c.requires.end_value)

pub slot_of-slot-requires : goal.slot_of-slot-requires
slot_of-slot-requires c = term-short _ _ _ c.requires.end_value (λ k. omega (arith, c.type_inv.terms k))

pub put_term-requires : goal.put_term-requires
put_term-requires c = record { table_len = c.requires.table_len; n_lt_term_limit = c.if-n-ge-TERM_LIMIT.false; hashes_len = c.requires.hashes_len; hashed = c.requires.hashed c.if-n-ge-TERM_LIMIT.false; slot_len = search rules }

pub returns : goal.returns
returns c =
    term-written _ (λ k. omega (arith, c.type_inv.terms k)) _ _ c.slot_of-slot.ensures c.put_term.ensures
