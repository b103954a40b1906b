-- `scope::uses::cond_uses` meets its contract.
use borrow.Author.Rules.{rules}
use native.Mathlib.Omega.{arith}
use mathlib.Core.Path.{◌≡◌}
use lib.ListN.{length}
use Rattle.definitions.specs.Limits.{variable_limit}
use Rattle.definitions.specs.Scope.{in_expr, in_cond}
use Rattle.laws.proofs.Walked.{leaf_walked}
use Rattle.laws.proofs.Productions.{CondAt, cond-at}
use Rattle.scope.proofs.UseLaws.{uses-none, uses-both}
use Rattle.scope.proofs.uses.+cond_uses.Goals as goal

pub cond_uses-a-requires : goal.cond_uses-a-requires
cond_uses-a-requires t c =
    let here : CondAt t c.args.script.now c.args.terms c.args.left c.args.at = cond-at _ _ _ _ _ c.decreases c.requires in let n = here.or c.in-82.is in (n.falls, n.first)

pub cond_uses-requires : goal.cond_uses-requires
cond_uses-requires t c =
    let here : CondAt t c.args.script.now c.args.terms c.args.left c.args.at = cond-at _ _ _ _ _ c.decreases c.requires in let n = here.or c.in-82.is in (n.falls, n.second c.cond_uses-a.ensures)

pub cond_uses-a-requires-in-83 : goal.cond_uses-a-requires-in-83
cond_uses-a-requires-in-83 t c =
    let here : CondAt t c.args.script.now c.args.terms c.args.left c.args.at = cond-at _ _ _ _ _ c.decreases c.requires in let n = here.and c.in-83.is in (n.falls, n.first)

pub cond_uses-requires-in-83 : goal.cond_uses-requires-in-83
cond_uses-requires-in-83 t c =
    let here : CondAt t c.args.script.now c.args.terms c.args.left c.args.at = cond-at _ _ _ _ _ c.decreases c.requires in let n = here.and c.in-83.is in (n.falls, n.second c.cond_uses-a-in-83.ensures)

pub cond_uses-requires-in-84 : goal.cond_uses-requires-in-84
cond_uses-requires-in-84 t c =
    let here : CondAt t c.args.script.now c.args.terms c.args.left c.args.at = cond-at _ _ _ _ _ c.decreases c.requires in let n = here.not c.in-84.is in (n.falls, n.child)

pub overflow_add-at : goal.overflow_add-at
overflow_add-at t c =
    let here : CondAt t c.args.script.now c.args.terms c.args.left c.args.at = cond-at _ _ _ _ _ c.decreases c.requires in omega (arith, here.regex c.in-85.is)

pub expr_uses-requires : goal.expr_uses-requires
expr_uses-requires t c =
    let here : CondAt t c.args.script.now c.args.terms c.args.left c.args.at = cond-at _ _ _ _ _ c.decreases c.requires in (here.regex c.in-85.is).rest.child

pub overflow_add-at-in-86 : goal.overflow_add-at-in-86
overflow_add-at-in-86 t c =
    let here : CondAt t c.args.script.now c.args.terms c.args.left c.args.at = cond-at _ _ _ _ _ c.decreases c.requires in omega (arith, here.lang_matches c.in-86.is)

pub expr_uses-requires-in-86 : goal.expr_uses-requires-in-86
expr_uses-requires-in-86 t c =
    let here : CondAt t c.args.script.now c.args.terms c.args.left c.args.at = cond-at _ _ _ _ _ c.decreases c.requires in (here.lang_matches c.in-86.is).rest.child

pub expr_uses-a-requires : goal.expr_uses-a-requires
expr_uses-a-requires t c =
    let here : CondAt t c.args.script.now c.args.terms c.args.left c.args.at = cond-at _ _ _ _ _ c.decreases c.requires in (here.equal c.in-87.is).first

pub expr_uses-requires-in-87 : goal.expr_uses-requires-in-87
expr_uses-requires-in-87 t c =
    let here : CondAt t c.args.script.now c.args.terms c.args.left c.args.at = cond-at _ _ _ _ _ c.decreases c.requires in (here.equal c.in-87.is).second c.expr_uses-a.ensures

pub expr_uses-a-requires-in_default : goal.expr_uses-a-requires-in_default
expr_uses-a-requires-in_default t c =
    let here : CondAt t c.args.script.now c.args.terms c.args.left c.args.at = cond-at _ _ _ _ _ c.decreases c.requires in (here.less c.in_default.in_default-own.rest).first

pub expr_uses-requires-in_default : goal.expr_uses-requires-in_default
expr_uses-requires-in_default t c =
    let here : CondAt t c.args.script.now c.args.terms c.args.left c.args.at = cond-at _ _ _ _ _ c.decreases c.requires in (here.less c.in_default.in_default-own.rest).second c.expr_uses-a-in_default.ensures

pub returns-in-80 : goal.returns-in-80
unfolding in_cond
returns-in-80 t c =
    let here : CondAt t c.args.script.now c.args.terms c.args.left c.args.at = cond-at _ _ _ _ _ c.decreases c.requires in let n : length c.args.free ≡ variable_limit = search rules in leaf_walked (here.no c.in-80.is) (uses-none c.args.hidden c.args.free n)

pub returns-in-81 : goal.returns-in-81
unfolding in_cond
returns-in-81 t c =
    let here : CondAt t c.args.script.now c.args.terms c.args.left c.args.at = cond-at _ _ _ _ _ c.decreases c.requires in let n : length c.args.free ≡ variable_limit = search rules in leaf_walked (here.yes c.in-81.is) (uses-none c.args.hidden c.args.free n)

pub returns-in-82 : goal.returns-in-82
unfolding in_cond
returns-in-82 t c =
    let here : CondAt t c.args.script.now c.args.terms c.args.left c.args.at = cond-at _ _ _ _ _ c.decreases c.requires in
    (here.or c.in-82.is).node c.cond_uses-a.ensures c.cond_uses.ensures
    (λ a b. uses-both c.args.hidden c.args.free (λ v. in_cond v a) (λ v. in_cond v b))

pub returns-in-83 : goal.returns-in-83
unfolding in_cond
returns-in-83 t c =
    let here : CondAt t c.args.script.now c.args.terms c.args.left c.args.at = cond-at _ _ _ _ _ c.decreases c.requires in
    (here.and c.in-83.is).node c.cond_uses-a-in-83.ensures c.cond_uses-in-83.ensures
    (λ a b. uses-both c.args.hidden c.args.free (λ v. in_cond v a) (λ v. in_cond v b))

pub returns-in-84 : goal.returns-in-84
unfolding in_cond
returns-in-84 t c =
    let here : CondAt t c.args.script.now c.args.terms c.args.left c.args.at = cond-at _ _ _ _ _ c.decreases c.requires in (here.not c.in-84.is).node c.cond_uses-in-84.ensures (λ e h. h)

pub returns-in-85 : goal.returns-in-85
unfolding in_cond
returns-in-85 t c =
    let here : CondAt t c.args.script.now c.args.terms c.args.left c.args.at = cond-at _ _ _ _ _ c.decreases c.requires in (here.regex c.in-85.is).rest.node c.expr_uses.ensures (λ e h. h)

pub returns-in-86 : goal.returns-in-86
unfolding in_cond
returns-in-86 t c =
    let here : CondAt t c.args.script.now c.args.terms c.args.left c.args.at = cond-at _ _ _ _ _ c.decreases c.requires in (here.lang_matches c.in-86.is).rest.node c.expr_uses-in-86.ensures (λ e h. h)

pub returns-in-87 : goal.returns-in-87
unfolding in_cond
returns-in-87 t c =
    let here : CondAt t c.args.script.now c.args.terms c.args.left c.args.at = cond-at _ _ _ _ _ c.decreases c.requires in
    (here.equal c.in-87.is).node c.expr_uses-a.ensures c.expr_uses-in-87.ensures
    (λ a b. uses-both c.args.hidden c.args.free (λ v. in_expr v a) (λ v. in_expr v b))

pub returns-in_default : goal.returns-in_default
unfolding in_cond
returns-in_default t c =
    let here : CondAt t c.args.script.now c.args.terms c.args.left c.args.at = cond-at _ _ _ _ _ c.decreases c.requires in
    (here.less c.in_default.in_default-own.rest).node c.expr_uses-a-in_default.ensures c.expr_uses-in_default.ensures
    (λ a b. uses-both c.args.hidden c.args.free (λ v. in_expr v a) (λ v. in_expr v b))

pub bounds-script-at : goal.bounds-script-at
bounds-script-at t c =
    let here : CondAt t c.args.script.now c.args.terms c.args.left c.args.at = cond-at _ _ _ _ _ c.decreases c.requires in here.inside

pub overflow_add-first : goal.overflow_add-first
overflow_add-first t c =
    let here : CondAt t c.args.script.now c.args.terms c.args.left c.args.at = cond-at _ _ _ _ _ c.decreases c.requires in omega (arith, here.inside)

pub overflow_sub-below : goal.overflow_sub-below
overflow_sub-below t c =
    let here : CondAt t c.args.script.now c.args.terms c.args.left c.args.at = cond-at _ _ _ _ _ c.decreases c.requires in here.pos
