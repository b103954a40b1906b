-- `subjects::subjects_of` meets its contract. The records before the offset are noted.
use native.Mathlib.Omega.{arith}
use mathlib.Core.Path.{sym, ap}
use Rattle.laws.specs.ReadAnswers.{is_some}
use Rattle.laws.proofs.Options.{some-not-none}
use Rattle.subjects.proofs.PageLaws.{going-first, going_end, going-noted, going-bad, record-at, next-after, record-long, going_on, going-noting}
use Rattle.subjects.proofs.subjects_of.Goals as goal

pub loop-at-init : goal.loop-at-init
loop-at-init c = (omega arith, omega arith, going-first _ _ _ _)

pub returns-in_default : goal.returns-in_default
returns-in_default c =
    let bad = going-bad _ _ _ c.loop-at.invariant.2 c.loop-at-test.true c.read_triple.ensures c.in_default.is in record {
      good_value = sym (ap is_some bad);
      noted = λ rs e. absurd (some-not-none e bad);
      count_le_subject_limit = omega (arith, c.loop-at.invariant.0, c.loop-at.invariant.1, c.requires);
    }

pub asked-requires : goal.asked-requires
asked-requires c =
    record-at _ _ _ c.loop-at.invariant.2 c.loop-at-test.true c.read_triple.ensures c.in-Some.is

pub note-requires : goal.note-requires
note-requires c =
    let l = record-long _ _ _ c.loop-at.invariant.2 c.loop-at-test.true c.read_triple.ensures c.in-Some.is c.asked.ensures c.in-Some-asked.is in
    let a = next-after _ _ _ c.loop-at.invariant.2 c.loop-at-test.true c.read_triple.ensures c.in-Some.is in record {
      record_at = record-at _ _ _ c.loop-at.invariant.2 c.loop-at-test.true c.read_triple.ensures c.in-Some.is;
      page_len_bound = c.requires;
      count_lt_subject_limit = omega (arith, l, a.1, c.loop-at.invariant.1, c.requires);
      noted = (_, c.loop-at.invariant.2.noted);
    }

pub loop-at-smaller-in-Some-asked : goal.loop-at-smaller-in-Some-asked
loop-at-smaller-in-Some-asked c =
    let a = next-after _ _ _ c.loop-at.invariant.2 c.loop-at-test.true c.read_triple.ensures c.in-Some.is in omega (arith, a.0, a.1)

pub loop-at-preserved-in-Some-asked : goal.loop-at-preserved-in-Some-asked
loop-at-preserved-in-Some-asked c =
    let l = record-long _ _ _ c.loop-at.invariant.2 c.loop-at-test.true c.read_triple.ensures c.in-Some.is c.asked.ensures c.in-Some-asked.is in
    let a = next-after _ _ _ c.loop-at.invariant.2 c.loop-at-test.true c.read_triple.ensures c.in-Some.is in (
      a.1,
      omega (arith, l, c.note.ensures.count_bound, c.loop-at.invariant.1),
      going-noting _ _ _ c.loop-at.invariant.2 c.loop-at-test.true c.read_triple.ensures c.in-Some.is c.asked.ensures c.in-Some-asked.is _
          c.note.ensures.noted_2,
    )

pub loop-at-smaller : goal.loop-at-smaller
loop-at-smaller c =
    let a = next-after _ _ _ c.loop-at.invariant.2 c.loop-at-test.true c.read_triple.ensures c.in-Some.is in omega (arith, a.0, a.1)

pub loop-at-preserved : goal.loop-at-preserved
loop-at-preserved c =
    let a = next-after _ _ _ c.loop-at.invariant.2 c.loop-at-test.true c.read_triple.ensures c.in-Some.is in (
      a.1,
      omega (arith, a.0, c.loop-at.invariant.1),
      going_on _ _ _ c.loop-at.invariant.2 c.loop-at-test.true c.read_triple.ensures c.in-Some.is c.asked.ensures
          c.in_default-asked.is,
    )

pub returns : goal.returns
returns c = record {
  good_value = sym (ap is_some (going_end _ _ _ c.loop-at.invariant.2 c.loop-at-test.false));
  noted = going-noted _ _ _ c.loop-at.invariant.2 c.loop-at-test.false;
  count_le_subject_limit = omega (arith, c.loop-at.invariant.0, c.loop-at.invariant.1, c.requires);
}
