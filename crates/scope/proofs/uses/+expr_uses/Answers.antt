-- `scope::uses::expr_uses` meets its contract.
use borrow.Author.Rules.{rules}
use native.Mathlib.Omega.{arith}
use mathlib.Core.Path.{◌≡◌}
use lib.ListN.{length}
use Rattle.definitions.specs.Limits.{variable_limit}
use Rattle.definitions.specs.Scope.{in_expr}
use Rattle.laws.proofs.Walked.{leaf_walked}
use Rattle.laws.proofs.Productions.{ExprAt, expr-at}
use Rattle.scope.proofs.UseLaws.{uses-none, uses-both}
use Rattle.scope.proofs.uses.+expr_uses.Goals as goal

pub name_uses-requires : goal.name_uses-requires
name_uses-requires t c =
    let here : ExprAt t c.args.script.now c.args.terms c.args.left c.args.at = expr-at _ _ _ _ _ c.decreases c.requires in (here.name (omega (arith, c.in-49.is))).child

pub name_uses-requires-in-50 : goal.name_uses-requires-in-50
name_uses-requires-in-50 t c =
    let here : ExprAt t c.args.script.now c.args.terms c.args.left c.args.at = expr-at _ _ _ _ _ c.decreases c.requires in (here.name (omega (arith, c.in-50.is))).child

pub expr_uses-requires : goal.expr_uses-requires
expr_uses-requires t c =
    let here : ExprAt t c.args.script.now c.args.terms c.args.left c.args.at = expr-at _ _ _ _ _ c.decreases c.requires in let n = here.str c.in-66.is in (n.falls, n.child)

pub expr_uses-requires-in-67 : goal.expr_uses-requires-in-67
expr_uses-requires-in-67 t c =
    let here : ExprAt t c.args.script.now c.args.terms c.args.left c.args.at = expr-at _ _ _ _ _ c.decreases c.requires in let n = here.abs c.in-67.is in (n.falls, n.child)

pub expr_uses-a-requires : goal.expr_uses-a-requires
expr_uses-a-requires t c =
    let here : ExprAt t c.args.script.now c.args.terms c.args.left c.args.at = expr-at _ _ _ _ _ c.decreases c.requires in let n = here.plus c.in-68.is in (n.falls, n.first)

pub expr_uses-requires-in-68 : goal.expr_uses-requires-in-68
expr_uses-requires-in-68 t c =
    let here : ExprAt t c.args.script.now c.args.terms c.args.left c.args.at = expr-at _ _ _ _ _ c.decreases c.requires in let n = here.plus c.in-68.is in (n.falls, n.second c.expr_uses-a.ensures)

pub expr_uses-a-requires-in_default : goal.expr_uses-a-requires-in_default
expr_uses-a-requires-in_default t c =
    let here : ExprAt t c.args.script.now c.args.terms c.args.left c.args.at = expr-at _ _ _ _ _ c.decreases c.requires in let n = here.minus c.in_default.in_default-own.rest in (n.falls, n.first)

pub expr_uses-requires-in_default : goal.expr_uses-requires-in_default
expr_uses-requires-in_default t c =
    let here : ExprAt t c.args.script.now c.args.terms c.args.left c.args.at = expr-at _ _ _ _ _ c.decreases c.requires in let n = here.minus c.in_default.in_default-own.rest in (n.falls, n.second c.expr_uses-a-in_default.ensures)

pub returns-in-49 : goal.returns-in-49
unfolding in_expr
returns-in-49 t c =
    let here : ExprAt t c.args.script.now c.args.terms c.args.left c.args.at = expr-at _ _ _ _ _ c.decreases c.requires in (here.name (omega (arith, c.in-49.is))).node c.name_uses.ensures (λ n h. h)

pub returns-in-50 : goal.returns-in-50
unfolding in_expr
returns-in-50 t c =
    let here : ExprAt t c.args.script.now c.args.terms c.args.left c.args.at = expr-at _ _ _ _ _ c.decreases c.requires in (here.name (omega (arith, c.in-50.is))).node c.name_uses-in-50.ensures (λ n h. h)

pub returns-in-65 : goal.returns-in-65
unfolding in_expr
returns-in-65 t c =
    let here : ExprAt t c.args.script.now c.args.terms c.args.left c.args.at = expr-at _ _ _ _ _ c.decreases c.requires in let n : length c.args.free ≡ variable_limit = search rules in leaf_walked (here.now c.in-65.is) (uses-none c.args.hidden c.args.free n)

pub returns-in-66 : goal.returns-in-66
unfolding in_expr
returns-in-66 t c =
    let here : ExprAt t c.args.script.now c.args.terms c.args.left c.args.at = expr-at _ _ _ _ _ c.decreases c.requires in (here.str c.in-66.is).node c.expr_uses.ensures (λ e h. h)

pub returns-in-67 : goal.returns-in-67
unfolding in_expr
returns-in-67 t c =
    let here : ExprAt t c.args.script.now c.args.terms c.args.left c.args.at = expr-at _ _ _ _ _ c.decreases c.requires in (here.abs c.in-67.is).node c.expr_uses-in-67.ensures (λ e h. h)

pub returns-in-68 : goal.returns-in-68
unfolding in_expr
returns-in-68 t c =
    let here : ExprAt t c.args.script.now c.args.terms c.args.left c.args.at = expr-at _ _ _ _ _ c.decreases c.requires in
    (here.plus c.in-68.is).node c.expr_uses-a.ensures c.expr_uses-in-68.ensures
    (λ a b. uses-both c.args.hidden c.args.free (λ v. in_expr v a) (λ v. in_expr v b))

pub returns-in_default : goal.returns-in_default
unfolding in_expr
returns-in_default t c =
    let here : ExprAt t c.args.script.now c.args.terms c.args.left c.args.at = expr-at _ _ _ _ _ c.decreases c.requires in
    (here.minus c.in_default.in_default-own.rest).node c.expr_uses-a-in_default.ensures c.expr_uses-in_default.ensures
    (λ a b. uses-both c.args.hidden c.args.free (λ v. in_expr v a) (λ v. in_expr v b))

pub bounds-script-at : goal.bounds-script-at
bounds-script-at t c =
    let here : ExprAt t c.args.script.now c.args.terms c.args.left c.args.at = expr-at _ _ _ _ _ c.decreases c.requires in here.inside

pub overflow_add-first : goal.overflow_add-first
overflow_add-first t c =
    let here : ExprAt t c.args.script.now c.args.terms c.args.left c.args.at = expr-at _ _ _ _ _ c.decreases c.requires in omega (arith, here.inside)

pub overflow_sub-below : goal.overflow_sub-below
overflow_sub-below t c =
    let here : ExprAt t c.args.script.now c.args.terms c.args.left c.args.at = expr-at _ _ _ _ _ c.decreases c.requires in here.pos
