-- `query::eval::eval_test` meets its contract: one law for each kind. Assumes nothing.
use native.Mathlib.Omega.{arith}
use mathlib.Core.Path.{refl, ◌∙◌}
use mathlib.Core.Logic.{⊎_elim}
use Rattle.definitions.specs.Bytes.{byte}
use Rattle.laws.proofs.Ends.{cond-ends, left_out}
use Rattle.laws.proofs.Productions.{cond-at}
use Rattle.laws.proofs.Ranges.{split}
use Rattle.query.proofs.Operators.{less-at, first-value, second-value}
use Rattle.query.proofs.EvalLaws.{some-value, no-value, good-value, regex-of, language-of, equal-of, less-of}
use Rattle.query.proofs.EvalLaws.{regex-none, language-none, equal-first, equal-second, less-first, less-second}
use Rattle.query.proofs.eval.eval_test.Goals as goal

pub bounds-script-at : goal.bounds-script-at
bounds-script-at c = (cond-at _ _ _ _ _ refl c.requires.loads).inside

pub overflow_add-first : goal.overflow_add-first
overflow_add-first c = omega (arith, (cond-at _ _ _ _ _ refl c.requires.loads).inside)

pub overflow_sub-below : goal.overflow_sub-below
overflow_sub-below c = (cond-at _ _ _ _ _ refl c.requires.loads).pos

pub overflow_add-text : goal.overflow_add-text
overflow_add-text c = omega (arith, ((cond-at _ _ _ _ _ refl c.requires.loads).regex c.in-85.is).room)

pub eval_expr-a-requires : goal.eval_expr-a-requires
eval_expr-a-requires c = record { loads = ((cond-at _ _ _ _ _ refl c.requires.loads).regex c.in-85.is).rest.child; lent = c.requires.ranks_lent.terms }

pub regex-truth-requires : goal.regex-truth-requires
regex-truth-requires c = record {
  good = good-value _ _ _ c.requires.ranks_lent.terms c.in-Some.is c.eval_expr-a.ensures;
  pattern_width_in_bounds = omega (arith, ((cond-at _ _ _ _ _ refl c.requires.loads).regex c.in-85.is).room);
}

pub overflow_add-text-in-86 : goal.overflow_add-text-in-86
overflow_add-text-in-86 c = omega (arith, ((cond-at _ _ _ _ _ refl c.requires.loads).lang_matches c.in-86.is).room)

pub eval_expr-a-requires-in-86 : goal.eval_expr-a-requires-in-86
eval_expr-a-requires-in-86 c = record { loads = ((cond-at _ _ _ _ _ refl c.requires.loads).lang_matches c.in-86.is).rest.child; lent = c.requires.ranks_lent.terms }

pub lang_matches-truth-requires : goal.lang_matches-truth-requires
lang_matches-truth-requires c = record {
  good = good-value _ _ _ c.requires.ranks_lent.terms c.in-Some-value.is c.eval_expr-a-in-86.ensures;
  language_range_width_in_bounds = omega (arith, ((cond-at _ _ _ _ _ refl c.requires.loads).lang_matches c.in-86.is).room);
}

pub eval_expr-a-requires-in_default : goal.eval_expr-a-requires-in_default
eval_expr-a-requires-in_default c = record { loads = first-value (cond-at _ _ _ _ _ refl c.requires.loads) (omega arith); lent = c.requires.ranks_lent.terms }

pub after-next-requires : goal.after-next-requires
after-next-requires c = c.args.view.now.ends_lent.room

pub eval_expr-b-requires : goal.eval_expr-b-requires
eval_expr-b-requires c = record { loads = second-value (cond-at _ _ _ _ _ refl c.requires.loads) (omega arith) c.eval_expr-a-in_default.ensures; lent = c.requires.ranks_lent.terms }

pub equal-truth-requires : goal.equal-truth-requires
equal-truth-requires c = record {
  good = good-value _ _ _ c.requires.ranks_lent.terms c.in-Some-value-2.is c.eval_expr-a-in_default.ensures;
  good_2 = good-value _ _ _ c.requires.ranks_lent.terms c.in-Some-value-3.is c.eval_expr-b.ensures;
}

pub less-truth-requires : goal.less-truth-requires
less-truth-requires c = record {
  ranks_len = c.requires.ranks_lent.ranked;
  good = good-value _ _ _ c.requires.ranks_lent.terms c.in-Some-value-2.is c.eval_expr-a-in_default.ensures;
  good_2 = good-value _ _ _ c.requires.ranks_lent.terms c.in-Some-value-3.is c.eval_expr-b.ensures;
}

pub returns-in_default-value : goal.returns-in_default-value
returns-in_default-value c =
    let n = (cond-at _ _ _ _ _ refl c.requires.loads).regex c.in-85.is in
    n.rest.node (no-value _ _ _ c.in_default-value.is c.eval_expr-a.ensures) (λ e h. regex-none _ n.value e h)

pub returns-in-Some : goal.returns-in-Some
returns-in-Some c =
    let n = (cond-at _ _ _ _ _ refl c.requires.loads).regex c.in-85.is in
    n.rest.node (some-value _ _ _ c.in-Some.is c.eval_expr-a.ensures) (λ e h. regex-of _ _ _ _ e h _ (c.regex-truth.ensures n.value n.is_good))

pub returns-in_default-value-2 : goal.returns-in_default-value-2
returns-in_default-value-2 c =
    let n = (cond-at _ _ _ _ _ refl c.requires.loads).lang_matches c.in-86.is in
    n.rest.node (no-value _ _ _ c.in_default-value-2.is c.eval_expr-a-in-86.ensures) (λ e h. language-none _ n.value e h)

pub returns-in-Some-value : goal.returns-in-Some-value
returns-in-Some-value c =
    let n = (cond-at _ _ _ _ _ refl c.requires.loads).lang_matches c.in-86.is in
    n.rest.node (some-value _ _ _ c.in-Some-value.is c.eval_expr-a-in-86.ensures) (λ e h. language-of _ _ _ _ e h _ (c.lang_matches-truth.ensures n.value n.is_good))

pub returns-in_default-value-3 : goal.returns-in_default-value-3
returns-in_default-value-3 c =
    let here = cond-at _ _ _ _ _ refl c.requires.loads in
    let a = no-value _ _ _ c.in_default-value-3.is c.eval_expr-a-in_default.ensures in
    ⊎_elim
    (λ k. left_out (less-at here (omega arith) (λ e. omega arith)) a (λ e f h. less-first _ e f h) (λ d n r. c.after-next.ensures ∙ cond-ends _ _ c.args.view.now.ends_lent.ended _ _ _ d n r))
    (λ k. left_out (here.equal (omega arith)) a (λ e f h. equal-first _ e f h) (λ d n r. c.after-next.ensures ∙ cond-ends _ _ c.args.view.now.ends_lent.ended _ _ _ d n r))
    (split 0x58 (byte c.args.view.now.script.now c.args.at))

pub returns-in_default-value-4 : goal.returns-in_default-value-4
returns-in_default-value-4 c =
    let here = cond-at _ _ _ _ _ refl c.requires.loads in
    let b = no-value _ _ _ c.in_default-value-4.is c.eval_expr-b.ensures in
    ⊎_elim
    (λ k. (less-at here (omega arith) (λ e. omega arith)).node c.eval_expr-a-in_default.ensures b (λ e f h g. less-second _ e f g))
    (λ k. (here.equal (omega arith)).node c.eval_expr-a-in_default.ensures b (λ e f h g. equal-second _ e f g))
    (split 0x58 (byte c.args.view.now.script.now c.args.at))

pub returns-then-kind-eq87 : goal.returns-then-kind-eq87
returns-then-kind-eq87 c =
    ((cond-at _ _ _ _ _ refl c.requires.loads).equal c.if-kind-eq87.true).node (some-value _ _ _ c.in-Some-value-2.is c.eval_expr-a-in_default.ensures)
    (some-value _ _ _ c.in-Some-value-3.is c.eval_expr-b.ensures) (λ e f h k. equal-of _ _ _ _ e h f k c.equal-truth.ensures)

pub returns-else-kind-eq87 : goal.returns-else-kind-eq87
returns-else-kind-eq87 c =
    (less-at (cond-at _ _ _ _ _ refl c.requires.loads) (omega arith) c.if-kind-eq87.false).node (some-value _ _ _ c.in-Some-value-2.is c.eval_expr-a-in_default.ensures)
    (some-value _ _ _ c.in-Some-value-3.is c.eval_expr-b.ensures) (λ e f h k. less-of _ _ _ _ e h f k c.less-truth.ensures)
