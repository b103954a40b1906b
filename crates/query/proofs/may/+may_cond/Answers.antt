-- `query::may::may_cond` meets its contract: one law for each way through; the levels left fall. Assumes nothing.
use native.Mathlib.Omega.{arith}
use mathlib.Core.Logic.{⊎_elim}
use mathlib.Core.Path.{◌∙◌}
use Rattle.definitions.specs.Bytes.{byte}
use Rattle.laws.proofs.Ends.{cond-ends, left_out}
use Rattle.laws.proofs.Ranges.{split}
use Rattle.laws.proofs.Walked.{leaf_walked, walked_more}
use Rattle.laws.proofs.Productions.{cond-at}
use Rattle.query.proofs.Operators.{cond-above, joint-at, less-at, first-value, second-value}
use Rattle.query.proofs.EvalLaws.{some-test, no-test}
use Rattle.query.proofs.MayLaws.{pair-out, equal-open, less-open, no-may, yes-may, not-may, joint-may-first, joint-may, test-open, test-may}
use Rattle.query.proofs.may.+may_cond.Goals.{in_default-via-then-kind-lt80, in_default-via-else-kind-lt80+else-kind-lt84}
use Rattle.query.proofs.may.+may_cond.Goals as goal

pub bounds-script-at : goal.bounds-script-at
bounds-script-at t c = (cond-at t _ _ _ _ c.decreases c.requires.loads).inside

pub overflow_add-first : goal.overflow_add-first
overflow_add-first t c = omega (arith, (cond-at t _ _ _ _ c.decreases c.requires.loads).inside)

pub overflow_sub-below : goal.overflow_sub-below
overflow_sub-below t c = (cond-at t _ _ _ _ c.decreases c.requires.loads).pos

pub returns-in-80 : goal.returns-in-80
returns-in-80 t c = leaf_walked ((cond-at t _ _ _ _ c.decreases c.requires.loads).no c.in-80.is) (no-may _ _ _ _ _)

pub returns-in-81 : goal.returns-in-81
returns-in-81 t c = leaf_walked ((cond-at t _ _ _ _ c.decreases c.requires.loads).yes c.in-81.is) (yes-may _ _ _ _ _)

pub may_cond-requires : goal.may_cond-requires
may_cond-requires t c = let n = (cond-at t _ _ _ _ c.decreases c.requires.loads).not c.in-84.is in (n.falls, (n.child, c.requires.ranks_lent))

pub returns-in-84 : goal.returns-in-84
returns-in-84 t c = ((cond-at t _ _ _ _ c.decreases c.requires.loads).not c.in-84.is).node c.may_cond.ensures (λ x h. not-may _ _ _ _ _ x h)

pub may_cond-a-requires : goal.may_cond-a-requires
may_cond-a-requires t c =
    let n = joint-at (cond-at t _ _ _ _ c.decreases c.requires.loads) (omega arith) (omega arith) in (n.falls, (n.first, c.requires.ranks_lent))

pub after-next-requires : goal.after-next-requires
after-next-requires t c = c.args.view.now.ends_lent.room

pub returns-then-a-decides : goal.returns-then-a-decides
returns-then-a-decides t c =
    left_out (joint-at (cond-at t _ _ _ _ c.decreases c.requires.loads) (omega arith) (omega arith)) c.may_cond-a.ensures
    (λ x y h. joint-may-first _ _ _ _ _ x y h _ c.if-a-decides.true) (λ d n r. c.after-next.ensures ∙ cond-ends _ _ c.args.view.now.ends_lent.ended _ _ _ d n r)

pub may_cond-requires-in-82 : goal.may_cond-requires-in-82
may_cond-requires-in-82 t c =
    let n = joint-at (cond-at t _ _ _ _ c.decreases c.requires.loads) (omega arith) (omega arith) in (n.falls, (n.second c.may_cond-a.ensures, c.requires.ranks_lent))

pub returns-else-a-decides : goal.returns-else-a-decides
returns-else-a-decides t c =
    (joint-at (cond-at t _ _ _ _ c.decreases c.requires.loads) (omega arith) (omega arith)).node c.may_cond-a.ensures c.may_cond-in-82.ensures
    (λ x y h k. joint-may _ _ _ _ _ x y h _ k c.if-a-decides.false)

pub pair_open-requires : goal.pair_open-requires
pair_open-requires t c = record {
  pair_loads = let here = cond-at t _ _ _ _ c.decreases c.requires.loads in
      (first-value here c.if-kind-ge87.true, λ e m r. second-value here c.if-kind-ge87.true (leaf_walked {P = λ a. Unit {0}} r tt));
  known_len = c.requires.ranks_lent.terms.variables;
}

pub after-next-requires-then-pair_open : goal.after-next-requires-then-pair_open
after-next-requires-then-pair_open t c = c.args.view.now.ends_lent.room

pub returns-then-pair_open : goal.returns-then-pair_open
returns-then-pair_open t c =
    let here = cond-at t _ _ _ _ c.decreases c.requires.loads in
    ⊎_elim
    (λ k. pair-out (less-at here c.if-kind-ge87.true (λ e. omega arith)) (λ e f i j r s. less-open _ (c.pair_open.ensures c.if-pair_open.true) _ _ _ _ e f i j r s) (λ d n r. c.after-next-then-pair_open.ensures ∙ cond-ends _ _ c.args.view.now.ends_lent.ended _ _ _ d n r))
    (λ k. pair-out (here.equal (omega arith)) (λ e f i j r s. equal-open _ (c.pair_open.ensures c.if-pair_open.true) _ _ _ _ e f i j r s) (λ d n r. c.after-next-then-pair_open.ensures ∙ cond-ends _ _ c.args.view.now.ends_lent.ended _ _ _ d n r))
    (split 0x58 (byte c.args.view.now.script.now c.args.at))

pub eval_test-test-requires : goal.eval_test-test-requires
eval_test-test-requires t c = record {
  loads = c.requires.loads;
  is_test = let from = cond-above _ _ _ _ c.requires.loads in elim c.in_default.branch [ in_default-via-then-kind-lt80 w ↦ omega (arith, from) | in_default-via-else-kind-lt80+else-kind-lt84 w ↦ omega arith ];
  ranks_lent = c.requires.ranks_lent;
}

pub returns-in_default-truth : goal.returns-in_default-truth
returns-in_default-truth t c = walked_more (no-test _ _ _ _ c.in_default-truth.is c.eval_test-test.ensures) (λ d h. test-open _ _ _ _ _ d h.0 h.1)

pub returns-in-Some : goal.returns-in-Some
returns-in-Some t c = walked_more (some-test _ _ _ _ c.in-Some.is c.eval_test-test.ensures) (λ d h. test-may _ _ _ _ _ c.comes_to-holds.ensures d h)
