-- `records::lists::hashed_distinct` meets its contract. The loop keeps what is asked of the rest equal to what is asked of the whole.
use native.Mathlib.Omega.{arith}
use mathlib.Core.Path.{sym, ap, ◌∙◌}
use Rattle.definitions.specs.Terms.{same_property, read_entry}
use Rattle.laws.proofs.RecordsAt.{entry-forward, schema-at}
use Rattle.laws.specs.ReadAnswers.{is_some}
use Rattle.fields.specs.Answers.{distinct_in}
use Rattle.records.proofs.ListLaws.{distinct-end}
use Rattle.records.proofs.EntryLaws.{schema-whole, entry-good, after-good, next-good, distinct-found, distinct-next, distinct-hashes}
use Rattle.records.proofs.lists.hashed_distinct.Goals as goal
use Rattle.records.proofs.lists.hashed_distinct.Goals.{else-is_in-via-then-is_in+else-again, else-is_in-via-else-is_in}

pub loop-i-init : goal.loop-i-init
loop-i-init c = let e = schema-at c.args.s.now in (ap is_some (sym e) ∙ c.requires.s_value, ap (distinct_in same_property) e)

pub again-requires : goal.again-requires
again-requires c = record { at_value = entry-good c.args.s.now c.loop-i.i c.loop-i.invariant.0 c.loop-i-test.true; from_value = after-good c.args.s.now c.loop-i.i c.loop-i.invariant.0 c.loop-i-test.true }

pub returns-then-again : goal.returns-then-again
returns-then-again c =
    sym (c.loop-i.invariant.1
    ∙ distinct-found c.args.s.now c.args.hashes.now c.requires.s_value c.requires.hashed_entries c.loop-i.i c.loop-i.invariant.0 c.loop-i-test.true c.again.ensures
    c.if-again.true)

pub loop-i-preserved : goal.loop-i-preserved
loop-i-preserved c = (
  next-good c.args.s.now c.loop-i.i c.loop-i.invariant.0 c.loop-i-test.true,
  c.loop-i.invariant.1
      ∙ elim c.else-is_in.branch [
        | else-is_in-via-then-is_in+else-again w ↦ distinct-next c.args.s.now c.args.hashes.now c.requires.s_value c.requires.hashed_entries c.loop-i.i c.loop-i.invariant.0 c.loop-i-test.true w.again.ensures
            w.if-again.false
        | else-is_in-via-else-is_in w ↦ distinct-hashes c.args.s.now c.args.hashes.now c.requires.s_value c.requires.hashed_entries c.loop-i.i c.loop-i.invariant.0 c.loop-i-test.true c.is_in.ensures
            w.if-is_in.false
      ],
)

pub returns : goal.returns
returns c =
    sym (c.loop-i.invariant.1 ∙ distinct-end read_entry entry-forward _ _ _ (omega (arith, (schema-whole c.args.s.now c.requires.s_value).1)))
