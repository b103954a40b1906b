-- `query::eval::eval_expr` meets its contract: one law for each kind; the levels left fall. Assumes nothing.
use native.Mathlib.Omega.{arith}
use mathlib.Core.Logic.{⊎_elim}
use Rattle.definitions.specs.Bytes.{byte}
use Rattle.laws.proofs.Walked.{leaf_walked}
use Rattle.laws.proofs.Productions.{expr-at}
use Rattle.laws.proofs.Ranges.{either, split}
use Rattle.query.proofs.Operators.{minus-at, first-operand, second-operand}
use Rattle.query.proofs.EvalLaws.{holds-gives, some-value, no-value, as-none, good-value, name-of, name-none, now-of, str-none, abs-none, str-of, abs-of, plus-of, minus-of}
use Rattle.query.proofs.EvalLaws.{plus-first, plus-second, minus-first, minus-second}
use Rattle.query.proofs.eval.+eval_expr.Goals as goal

pub bounds-script-at : goal.bounds-script-at
bounds-script-at t c = (expr-at t _ _ _ _ c.decreases c.requires.loads).inside

pub overflow_add-first : goal.overflow_add-first
overflow_add-first t c = omega (arith, (expr-at t _ _ _ _ c.decreases c.requires.loads).inside)

pub overflow_sub-below : goal.overflow_sub-below
overflow_sub-below t c = (expr-at t _ _ _ _ c.decreases c.requires.loads).pos

pub name_at-n-requires : goal.name_at-n-requires
name_at-n-requires t c = record { loads = ((expr-at t _ _ _ _ c.decreases c.requires.loads).name c.if-kind-lt65.true).child; known_len = c.requires.lent.variables }

pub returns-then-n-ge-SOUGHT : goal.returns-then-n-ge-SOUGHT
returns-then-n-ge-SOUGHT t c =
    ((expr-at t _ _ _ _ c.decreases c.requires.loads).name c.if-kind-lt65.true).node c.name_at-n.ensures (λ m h. name-none _ m _ c.if-n-ge-SOUGHT.true h)

pub returns-then-kind-lt65 : goal.returns-then-kind-lt65
returns-then-kind-lt65 t c =
    ((expr-at t _ _ _ _ c.decreases c.requires.loads).name c.if-kind-lt65.true).node c.name_at-n.ensures
    (λ m h. name-of _ _ _ m _ c.if-n-ge-SOUGHT.false h c.term_value-value.ensures)

pub returns-then-kind-eq65 : goal.returns-then-kind-eq65
returns-then-kind-eq65 t c = leaf_walked ((expr-at t _ _ _ _ c.decreases c.requires.loads).now c.if-kind-eq65.true) (now-of _ _ _ c.clock_value-value.ensures)

pub eval_expr-a-requires : goal.eval_expr-a-requires
eval_expr-a-requires t c = let n = first-operand (expr-at t _ _ _ _ c.decreases c.requires.loads) (omega arith) in (n.0, (n.1, c.requires.lent))

pub text_of-value-requires : goal.text_of-value-requires
text_of-value-requires t c = good-value _ _ _ c.requires.lent c.in-Some.is c.eval_expr-a.ensures

pub abs-value-requires : goal.abs-value-requires
abs-value-requires t c = good-value _ _ _ c.requires.lent c.in-Some.is c.eval_expr-a.ensures

pub returns-in_default : goal.returns-in_default
returns-in_default t c =
    let here = expr-at t _ _ _ _ c.decreases c.requires.loads in
    let a = no-value _ _ _ c.in_default.is c.eval_expr-a.ensures in
    as-none _ _ _ c.in_default.is
    (⊎_elim (λ k. (here.str k).node a (λ e h. str-none _ e h)) (λ k. (here.abs k).node a (λ e h. abs-none _ e h)) (either 0x42 (omega arith) (omega arith)))

pub returns-then-kind-eq66 : goal.returns-then-kind-eq66
returns-then-kind-eq66 t c =
    ((expr-at t _ _ _ _ c.decreases c.requires.loads).str c.if-kind-eq66.true).node (some-value _ _ _ c.in-Some.is c.eval_expr-a.ensures)
    (λ e h. str-of _ _ _ e h (holds-gives c.text_of-value.ensures))

pub returns-else-kind-eq66 : goal.returns-else-kind-eq66
returns-else-kind-eq66 t c =
    ((expr-at t _ _ _ _ c.decreases c.requires.loads).abs (omega arith)).node (some-value _ _ _ c.in-Some.is c.eval_expr-a.ensures) (λ e h. abs-of _ _ _ e h c.abs-value.ensures)

pub eval_expr-b-requires : goal.eval_expr-b-requires
eval_expr-b-requires t c =
    let n = second-operand (expr-at t _ _ _ _ c.decreases c.requires.loads) c.if-kind-lt68.false c.eval_expr-a.ensures in (n.0, (n.1, c.requires.lent))

pub returns-in_default-2 : goal.returns-in_default-2
returns-in_default-2 t c =
    let here = expr-at t _ _ _ _ c.decreases c.requires.loads in
    let b = no-value _ _ _ c.in_default-2.is-1 c.eval_expr-b.ensures in
    ⊎_elim
    (λ k. (minus-at here c.if-kind-lt68.false (λ e. omega arith)).node c.eval_expr-a.ensures b (λ e f h g. minus-second _ e f g))
    (λ k. (here.plus (omega arith)).node c.eval_expr-a.ensures b (λ e f h g. plus-second _ e f g))
    (split 0x45 (byte c.args.script.now c.args.at))

pub returns-in_default-2-2 : goal.returns-in_default-2-2
returns-in_default-2-2 t c =
    let here = expr-at t _ _ _ _ c.decreases c.requires.loads in
    let a = no-value _ _ _ c.in_default-2.is-0 c.eval_expr-a.ensures in
    ⊎_elim
    (λ k. (minus-at here c.if-kind-lt68.false (λ e. omega arith)).node a c.eval_expr-b.ensures (λ e f h g. minus-first _ e f h))
    (λ k. (here.plus (omega arith)).node a c.eval_expr-b.ensures (λ e f h g. plus-first _ e f h))
    (split 0x45 (byte c.args.script.now c.args.at))

pub plus-value-requires : goal.plus-value-requires
plus-value-requires t c = record { good = good-value _ _ _ c.requires.lent c.in-Some-Some.is-0 c.eval_expr-a.ensures; good_2 = good-value _ _ _ c.requires.lent c.in-Some-Some.is-1 c.eval_expr-b.ensures }

pub minus-value-requires : goal.minus-value-requires
minus-value-requires t c = record { good = good-value _ _ _ c.requires.lent c.in-Some-Some.is-0 c.eval_expr-a.ensures; good_2 = good-value _ _ _ c.requires.lent c.in-Some-Some.is-1 c.eval_expr-b.ensures }

pub returns-then-kind-eq68 : goal.returns-then-kind-eq68
returns-then-kind-eq68 t c =
    ((expr-at t _ _ _ _ c.decreases c.requires.loads).plus c.if-kind-eq68.true).node (some-value _ _ _ c.in-Some-Some.is-0 c.eval_expr-a.ensures)
    (some-value _ _ _ c.in-Some-Some.is-1 c.eval_expr-b.ensures) (λ e f h k. plus-of _ _ _ e h f k c.plus-value.ensures)

pub returns-else-kind-eq68 : goal.returns-else-kind-eq68
returns-else-kind-eq68 t c =
    (minus-at (expr-at t _ _ _ _ c.decreases c.requires.loads) c.if-kind-lt68.false c.if-kind-eq68.false).node (some-value _ _ _ c.in-Some-Some.is-0 c.eval_expr-a.ensures)
    (some-value _ _ _ c.in-Some-Some.is-1 c.eval_expr-b.ensures) (λ e f h k. minus-of _ _ _ e h f k c.minus-value.ensures)
