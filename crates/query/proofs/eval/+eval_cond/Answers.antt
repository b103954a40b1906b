-- `query::eval::eval_cond` meets its contract: one law for each kind, and for a second part that is left out; the levels left fall. Assumes nothing.
use native.Mathlib.Omega.{arith}
use mathlib.Core.Path.{sym, ◌∙◌}
use borrow.Author.Tests.{eq-eqb, ne_eqb}
use Rattle.laws.proofs.Ends.{cond-ends, left_out, left-within}
use Rattle.laws.proofs.ReadBounds.{cond-within}
use Rattle.laws.proofs.Walked.{leaf_walked, walked_more}
use Rattle.laws.proofs.Productions.{cond-at}
use Rattle.query.proofs.Operators.{cond-above, joint-at}
use Rattle.query.proofs.EvalLaws.{no_truth, yes-truth, not-truth, joint-first, joint-truth, any-truth}
use Rattle.query.proofs.eval.+eval_cond.Goals.{then-either, else-either, in_default-via-then-kind-lt80, in_default-via-else-kind-lt80+else-kind-lt84}
use Rattle.query.proofs.eval.+eval_cond.Goals as goal

pub bounds-script-at : goal.bounds-script-at
bounds-script-at t c = (cond-at t _ _ _ _ c.decreases c.requires.loads).inside

pub overflow_add-first : goal.overflow_add-first
overflow_add-first t c = omega (arith, (cond-at t _ _ _ _ c.decreases c.requires.loads).inside)

pub overflow_sub-below : goal.overflow_sub-below
overflow_sub-below t c = (cond-at t _ _ _ _ c.decreases c.requires.loads).pos

pub returns-in-80 : goal.returns-in-80
returns-in-80 t c = record { walked = leaf_walked ((cond-at t _ _ _ _ c.decreases c.requires.loads).no c.in-80.is) (no_truth _ _ _ _); records_bound = omega arith }

pub returns-in-81 : goal.returns-in-81
returns-in-81 t c = record { walked = leaf_walked ((cond-at t _ _ _ _ c.decreases c.requires.loads).yes c.in-81.is) (yes-truth _ _ _ _); records_bound = omega arith }

pub eval_cond-a-requires : goal.eval_cond-a-requires
eval_cond-a-requires t c = let n = (cond-at t _ _ _ _ c.decreases c.requires.loads).not c.in-84.is in (n.falls, (n.child, c.requires.ranks_lent))

pub returns-in-84 : goal.returns-in-84
returns-in-84 t c = record {
  walked = ((cond-at t _ _ _ _ c.decreases c.requires.loads).not c.in-84.is).node c.eval_cond-a.ensures.walked (λ x h. not-truth _ _ _ _ x h c.not_of-truth.ensures);
  records_bound = omega (arith, c.eval_cond-a.ensures.records_bound);
}

pub overflow_add-records : goal.overflow_add-records
overflow_add-records t c = omega (arith, c.eval_cond-a.ensures.records_bound, cond-within _ _ _ _ _ _ c.eval_cond-a.ensures.walked.read)

pub eval_cond-a-requires-in-82 : goal.eval_cond-a-requires-in-82
eval_cond-a-requires-in-82 t c =
    let n = joint-at (cond-at t _ _ _ _ c.decreases c.requires.loads) (omega arith) (omega arith) in (n.falls, (n.first, c.requires.ranks_lent))

pub overflow_add-counted : goal.overflow_add-counted
overflow_add-counted t c = omega (arith, c.eval_cond-a-in-82.ensures.records_bound, cond-within _ _ _ _ _ _ c.eval_cond-a-in-82.ensures.walked.read)

pub after-next-requires : goal.after-next-requires
after-next-requires t c = c.args.view.now.ends_lent.room

pub returns-then-comes_to : goal.returns-then-comes_to
returns-then-comes_to t c =
    let n = joint-at (cond-at t _ _ _ _ c.decreases c.requires.loads) (omega arith) (omega arith) in
    let w = left_out n c.eval_cond-a-in-82.ensures.walked (λ x y h. joint-first _ _ _ _ x y h _ (sym c.comes_to.ensures ∙ c.if-comes_to.true))
    (λ d n r. c.after-next.ensures ∙ cond-ends _ _ c.args.view.now.ends_lent.ended _ _ _ d n r) in record {
      walked = w;
      records_bound = omega (
        arith,
        c.eval_cond-a-in-82.ensures.records_bound,
        left-within n c.eval_cond-a-in-82.ensures.walked (λ d n r. (cond-within _ _ _ _ d n r).from)
            (λ d n r. c.after-next.ensures ∙ cond-ends _ _ c.args.view.now.ends_lent.ended _ _ _ d n r),
      );
    }

pub eval_cond-b-requires : goal.eval_cond-b-requires
eval_cond-b-requires t c =
    let n = joint-at (cond-at t _ _ _ _ c.decreases c.requires.loads) (omega arith) (omega arith) in
    (n.falls, (n.second c.eval_cond-a-in-82.ensures.walked, c.requires.ranks_lent))

pub overflow_add-records-in-82 : goal.overflow_add-records-in-82
overflow_add-records-in-82 t c =
    omega (arith, c.eval_cond-a-in-82.ensures.records_bound, c.eval_cond-b.ensures.records_bound, cond-within _ _ _ _ _ _ c.eval_cond-b.ensures.walked.read)

pub returns-after-either : goal.returns-after-either
returns-after-either t c = record {
  walked = (joint-at (cond-at t _ _ _ _ c.decreases c.requires.loads) (omega arith) (omega arith)).node c.eval_cond-a-in-82.ensures.walked c.eval_cond-b.ensures.walked
      (λ x y h k. joint-truth _ _ _ _ x y h _ k (sym c.comes_to.ensures ∙ c.if-comes_to.false)
      (elim c.if-either.branch [
        | then-either w ↦ rw (eq-eqb _ _ w.if-either.true) (w.truth-is ∙ w.or_of-truth.ensures)
        | else-either w ↦ rw (ne_eqb _ _ w.if-either.false) (w.truth-is ∙ w.and_of-truth.ensures)
      ]));
  records_bound = omega (arith, c.eval_cond-a-in-82.ensures.records_bound, c.eval_cond-b.ensures.records_bound);
}

pub eval_test-test-requires : goal.eval_test-test-requires
eval_test-test-requires t c = record {
  loads = c.requires.loads;
  is_test = let from = cond-above _ _ _ _ c.requires.loads in elim c.in_default.branch [ in_default-via-then-kind-lt80 w ↦ omega (arith, from) | in_default-via-else-kind-lt80+else-kind-lt84 w ↦ omega arith ];
  ranks_lent = c.requires.ranks_lent;
}

pub returns-in_default : goal.returns-in_default
returns-in_default t c = record {
  walked = walked_more c.eval_test-test.ensures (λ d h. any-truth _ _ _ _ _ c.unwrap_or-truth.ensures d h);
  records_bound = omega (arith, cond-within _ _ _ _ _ _ c.eval_test-test.ensures.read);
}
