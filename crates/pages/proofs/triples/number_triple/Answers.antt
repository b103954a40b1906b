-- `pages::triples::number_triple` meets its contract.
use native.Mathlib.Omega.{arith}
use Rattle.definitions.specs.Terms.{Term}
use Rattle.pages.specs.Page.{subject_in, property_in}
use Rattle.page_reader.proofs.RecordLaws.{kind-high}
use Rattle.pages.proofs.TakeLaws.{subject-body, property-body, object-body, first-over, second-over, all-numbered}
use Rattle.pages.proofs.triples.number_triple.Goals as goal

pub overflow_sub-kind : goal.overflow_sub-kind
overflow_sub-kind c =
    omega (arith, kind-high c.args.page.now c.args.at c.args.next c.requires.record_at.0 c.requires.record_at.1)

pub number_body-subject-requires : goal.number_body-subject-requires
number_body-subject-requires c = record { held = c.requires.held; held_hashes = c.requires.held_hashes; says = (Term.uri c.requires.record_at.0.subject, subject-body c.args.page.now c.args.at c.args.next c.requires.record_at.0 c.requires.record_at.1) }

pub returns-then-one-gt-TERM_LIMIT : goal.returns-then-one-gt-TERM_LIMIT
returns-then-one-gt-TERM_LIMIT c = record {
  numbering = (λ ts x h r. first-over ts x _ _ (c.number_body-subject.ensures.joins ts (Term.uri x.subject) h (subject-body c.args.page.now c.args.at c.args.next x r))
      c.if-one-gt-TERM_LIMIT.true);
  held_hashes_2 = c.number_body-subject.ensures.held_hashes_2;
}

pub number_body-property-requires : goal.number_body-property-requires
number_body-property-requires c =
    let j = c.number_body-subject.ensures.joins c.requires.held.0 (Term.uri c.requires.record_at.0.subject) c.requires.held.1 (subject-body c.args.page.now c.args.at c.args.next c.requires.record_at.0 c.requires.record_at.1) in record { held = (_, j.held (omega arith)); held_hashes = c.number_body-subject.ensures.held_hashes_2; says = (Term.uri c.requires.record_at.0.property, property-body c.args.page.now c.args.at c.args.next c.requires.record_at.0 c.requires.record_at.1) }

pub returns-then-two-gt-TERM_LIMIT : goal.returns-then-two-gt-TERM_LIMIT
returns-then-two-gt-TERM_LIMIT c = record {
  numbering = (λ ts x h r. let j = c.number_body-subject.ensures.joins ts (Term.uri x.subject) h (subject-body c.args.page.now c.args.at c.args.next x r) in
      second-over ts x _ _ (c.number_body-property.ensures.joins (subject_in ts x).terms (Term.uri x.property) (j.held (omega (arith, c.if-one-gt-TERM_LIMIT.false)))
      (property-body c.args.page.now c.args.at c.args.next x r)) c.if-two-gt-TERM_LIMIT.true);
  held_hashes_2 = c.number_body-property.ensures.held_hashes_2;
}

pub number_body-object-requires : goal.number_body-object-requires
number_body-object-requires c =
    let j = c.number_body-subject.ensures.joins c.requires.held.0 (Term.uri c.requires.record_at.0.subject) c.requires.held.1 (subject-body c.args.page.now c.args.at c.args.next c.requires.record_at.0 c.requires.record_at.1) in
    let k = c.number_body-property.ensures.joins (subject_in c.requires.held.0 c.requires.record_at.0).terms (Term.uri c.requires.record_at.0.property) (j.held (omega (arith, c.if-one-gt-TERM_LIMIT.false)))
    (property-body c.args.page.now c.args.at c.args.next c.requires.record_at.0 c.requires.record_at.1) in record { held = (_, k.held (omega (arith, c.if-two-gt-TERM_LIMIT.false))); held_hashes = c.number_body-property.ensures.held_hashes_2; says = (c.requires.record_at.0.object, object-body c.args.page.now c.args.at c.args.next c.requires.record_at.0 c.requires.record_at.1) }

pub returns : goal.returns
returns c = record {
  numbering = (λ ts x h r. let j = c.number_body-subject.ensures.joins ts (Term.uri x.subject) h (subject-body c.args.page.now c.args.at c.args.next x r) in
      let k = c.number_body-property.ensures.joins (subject_in ts x).terms (Term.uri x.property) (j.held (omega (arith, c.if-one-gt-TERM_LIMIT.false)))
      (property-body c.args.page.now c.args.at c.args.next x r) in
      all-numbered ts x _ _ _ _ _ _ j k
      (c.number_body-object.ensures.joins (property_in ts x).terms x.object (k.held (omega (arith, c.if-two-gt-TERM_LIMIT.false)))
      (object-body c.args.page.now c.args.at c.args.next x r)));
  held_hashes_2 = c.number_body-object.ensures.held_hashes_2;
}
