-- `pages::triples::take_record` meets its contract.
use native.Mathlib.Omega.{arith}
use mathlib.Core.Path.{ap, sym, ◌∙◌}
use Rattle.laws.specs.ReadAnswers.{is_some}
use Rattle.pages.proofs.TakeLaws.{take-skipped, take-over, take-stored}
use Rattle.pages.proofs.triples.take_record.Goals as goal

pub well_typed-requires : goal.well_typed-requires
well_typed-requires c = record { triple_at = c.requires.record_at; schema_value = ap is_some c.requires.reads.1; hashed_entries = c.requires.reads.2 }

pub returns-then-not-well_typed : goal.returns-then-not-well_typed
returns-then-not-well_typed c = record { took = (λ S x o k e r h. take-skipped S c.args.graph x k c.args.counts c.args.terms.now c.args.keys.now o h (sym (c.well_typed.ensures S x e r) ∙ c.if-not-well_typed.true)); held_hashes_2 = c.requires.held_hashes; skipped_bound = omega arith; keys_bound = omega arith }

pub returns-then-count-gt-TERM_LIMIT : goal.returns-then-count-gt-TERM_LIMIT
returns-then-count-gt-TERM_LIMIT c = record { took = (λ S x o k e r h. take-over S c.args.graph x k c.args.counts c.args.terms.now c.args.keys.now o h (sym (c.well_typed.ensures S x e r) ∙ c.if-not-well_typed.false) c.number_triple-numbers.result _ (c.number_triple-numbers.ensures.numbering k.terms x h.terms r) c.if-count-gt-TERM_LIMIT.true); held_hashes_2 = c.number_triple-numbers.ensures.held_hashes_2; skipped_bound = omega arith; keys_bound = omega arith }

pub offset_bounds-keys-m : goal.offset_bounds-keys-m
offset_bounds-keys-m c =
    omega (arith, c.requires.keys_lt_record_limit.0)

pub bounds-keys-m : goal.bounds-keys-m
bounds-keys-m c =
    omega (arith, c.requires.keys_lt_record_limit.0, c.requires.keys_lt_record_limit.1)

pub overflow_add-gathered : goal.overflow_add-gathered
overflow_add-gathered c =
    omega (arith, c.requires.keys_lt_record_limit.0)

pub returns : goal.returns
returns c = record {
  took = (λ S x o k e r h. take-stored S c.args.graph x k c.args.counts c.args.terms.now c.args.keys.now o h (sym (c.well_typed.ensures S x e r) ∙ c.if-not-well_typed.false) c.number_triple-numbers.result _ (c.number_triple-numbers.ensures.numbering k.terms x h.terms r) c.if-count-gt-TERM_LIMIT.false (omega (
    arith,
    c.requires.keys_lt_record_limit.0,
    c.requires.keys_lt_record_limit.1,
  )) _ c.key_of-key.ensures.value c.key_of-key.ensures.small);
  held_hashes_2 = c.number_triple-numbers.ensures.held_hashes_2;
  skipped_bound = omega arith;
  keys_bound = omega arith;
}
