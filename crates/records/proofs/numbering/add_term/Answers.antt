-- `records::numbering::add_term` meets its contract.
use native.Mathlib.Omega.{arith}
use mathlib.Core.Path.{refl}
use Rattle.table.proofs.PlaceLaws.{below-is, below-not}
use Rattle.table.proofs.TableLaws.{holds-few}
use Rattle.records.proofs.NumberingLaws.{number-last, join-there, join-full, join-new}
use Rattle.records.proofs.numbering.add_term.Goals as goal

pub overflow_cast-number : goal.overflow_cast-number
overflow_cast-number c = omega (arith, below-is _ _ c.find_term.ensures c.in-Some.is, holds-few _ _ c.requires.holds_terms)

pub returns-in-Some : goal.returns-in-Some
returns-in-Some c =
    let f = below-is _ _ c.find_term.ensures c.in-Some.is in
    let p = join-there _ _ _ (λ k. omega (arith, c.slice_known-1.given k)) (λ k. omega (arith, c.type_inv.slot k)) c.requires.holds_terms c.requires.good_slot
    refl f.1 in record { number_value = f.0; terms_value = p.0; table_after = p.1; hashed_2 = λ few. c.requires.hashed }

pub overflow_cast-number-2 : goal.overflow_cast-number-2
overflow_cast-number-2 c = omega (arith, holds-few _ _ c.requires.holds_terms)

pub overflow_add-terms : goal.overflow_add-terms
overflow_add-terms c = omega (arith, holds-few _ _ c.requires.holds_terms)

pub returns-then-n-ge-TERM_LIMIT : goal.returns-then-n-ge-TERM_LIMIT
returns-then-n-ge-TERM_LIMIT c =
    let l = below-not _ _ c.find_term.ensures c.in_default.is in
    let p = join-full _ _ _ (λ k. omega (arith, c.slice_known-1.given k)) (λ k. omega (arith, c.type_inv.slot k)) c.requires.holds_terms c.requires.good_slot
    refl l c.if-n-ge-TERM_LIMIT.true in record {
      number_value = number-last _ _ _ (λ k. omega (arith, c.slice_known-1.given k)) (λ k. omega (arith, c.type_inv.slot k)) c.requires.holds_terms c.requires.good_slot refl l;
      terms_value = p.0;
      table_after = p.1;
      hashed_2 = λ few. absurd (omega arith);
    }

pub put_term-requires : goal.put_term-requires
put_term-requires c = record { table_len = c.requires.holds_terms.width; n_lt_term_limit = c.if-n-ge-TERM_LIMIT.false; hashes_len = c.requires.hashes_len; hashed = c.requires.hashed; slot_len = c.requires.good_slot.width }

pub returns : goal.returns
returns c =
    let l = below-not _ _ c.find_term.ensures c.in_default.is in
    let p = join-new _ _ _ (λ k. omega (arith, c.slice_known-1.given k)) (λ k. omega (arith, c.type_inv.slot k)) c.requires.holds_terms c.requires.good_slot
    refl l c.if-n-ge-TERM_LIMIT.false c.put_term.ensures.0 in record {
      number_value = number-last _ _ _ (λ k. omega (arith, c.slice_known-1.given k)) (λ k. omega (arith, c.type_inv.slot k)) c.requires.holds_terms c.requires.good_slot refl l;
      terms_value = p.0;
      table_after = p.1;
      hashed_2 = λ few. c.put_term.ensures.1;
    }
