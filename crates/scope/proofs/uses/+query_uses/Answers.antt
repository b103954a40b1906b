-- `scope::uses::query_uses` meets its contract.
use borrow.Author.Rules.{rules}
use native.Mathlib.Omega.{arith}
use mathlib.Core.Path.{◌≡◌}
use lib.ListN.{length}
use Rattle.definitions.specs.Limits.{variable_limit}
use Rattle.definitions.specs.Scope.{in_name, in_query}
use Rattle.laws.proofs.Walked.{leaf_walked}
use Rattle.laws.proofs.Productions.{QueryAt, query-at}
use Rattle.scope.proofs.UseLaws.{uses-none, uses-both}
use Rattle.scope.proofs.uses.+query_uses.Goals as goal

pub name_uses-g-requires : goal.name_uses-g-requires
name_uses-g-requires t c =
    let here : QueryAt t c.args.script.now c.args.terms c.args.left c.args.at = query-at _ _ _ _ _ c.decreases c.requires in (here.pattern c.in-97.is).first

pub name_uses-s-requires : goal.name_uses-s-requires
name_uses-s-requires t c =
    let here : QueryAt t c.args.script.now c.args.terms c.args.left c.args.at = query-at _ _ _ _ _ c.decreases c.requires in (here.pattern c.in-97.is).second c.name_uses-g.ensures

pub name_uses-p-requires : goal.name_uses-p-requires
name_uses-p-requires t c =
    let here : QueryAt t c.args.script.now c.args.terms c.args.left c.args.at = query-at _ _ _ _ _ c.decreases c.requires in
    (here.pattern c.in-97.is).third c.name_uses-g.ensures c.name_uses-s.ensures

pub name_uses-requires : goal.name_uses-requires
name_uses-requires t c =
    let here : QueryAt t c.args.script.now c.args.terms c.args.left c.args.at = query-at _ _ _ _ _ c.decreases c.requires in
    (here.pattern c.in-97.is).fourth c.name_uses-g.ensures c.name_uses-s.ensures c.name_uses-p.ensures

pub query_uses-a-requires : goal.query_uses-a-requires
query_uses-a-requires t c =
    let here : QueryAt t c.args.script.now c.args.terms c.args.left c.args.at = query-at _ _ _ _ _ c.decreases c.requires in let n = here.both c.in-98.is in (n.falls, n.first)

pub query_uses-requires : goal.query_uses-requires
query_uses-requires t c =
    let here : QueryAt t c.args.script.now c.args.terms c.args.left c.args.at = query-at _ _ _ _ _ c.decreases c.requires in let n = here.both c.in-98.is in (n.falls, n.second c.query_uses-a.ensures)

pub query_uses-a-requires-in-99 : goal.query_uses-a-requires-in-99
query_uses-a-requires-in-99 t c =
    let here : QueryAt t c.args.script.now c.args.terms c.args.left c.args.at = query-at _ _ _ _ _ c.decreases c.requires in let n = here.union c.in-99.is in (n.falls, n.first)

pub query_uses-requires-in-99 : goal.query_uses-requires-in-99
query_uses-requires-in-99 t c =
    let here : QueryAt t c.args.script.now c.args.terms c.args.left c.args.at = query-at _ _ _ _ _ c.decreases c.requires in let n = here.union c.in-99.is in (n.falls, n.second c.query_uses-a-in-99.ensures)

pub cond_uses-requires : goal.cond_uses-requires
cond_uses-requires t c =
    let here : QueryAt t c.args.script.now c.args.terms c.args.left c.args.at = query-at _ _ _ _ _ c.decreases c.requires in (here.filter c.in-100.is).child

pub returns-in-97 : goal.returns-in-97
unfolding in_query
returns-in-97 t c =
    let here : QueryAt t c.args.script.now c.args.terms c.args.left c.args.at = query-at _ _ _ _ _ c.decreases c.requires in
    (here.pattern c.in-97.is).node c.name_uses-g.ensures
    c.name_uses-s.ensures c.name_uses-p.ensures c.name_uses.ensures
    (λ g s p o h i j k.
    uses-both c.args.hidden c.args.free (λ v. in_name v g) _ h
    (uses-both c.args.hidden _ (λ v. in_name v s) _ i (uses-both c.args.hidden _ (λ v. in_name v p) (λ v. in_name v o) j k)))

pub returns-in-98 : goal.returns-in-98
unfolding in_query
returns-in-98 t c =
    let here : QueryAt t c.args.script.now c.args.terms c.args.left c.args.at = query-at _ _ _ _ _ c.decreases c.requires in
    (here.both c.in-98.is).node c.query_uses-a.ensures c.query_uses.ensures
    (λ a b. uses-both c.args.hidden c.args.free (λ v. in_query v a) (λ v. in_query v b))

pub returns-in-99 : goal.returns-in-99
unfolding in_query
returns-in-99 t c =
    let here : QueryAt t c.args.script.now c.args.terms c.args.left c.args.at = query-at _ _ _ _ _ c.decreases c.requires in
    (here.union c.in-99.is).node c.query_uses-a-in-99.ensures c.query_uses-in-99.ensures
    (λ a b. uses-both c.args.hidden c.args.free (λ v. in_query v a) (λ v. in_query v b))

pub returns-in-100 : goal.returns-in-100
unfolding in_query
returns-in-100 t c =
    let here : QueryAt t c.args.script.now c.args.terms c.args.left c.args.at = query-at _ _ _ _ _ c.decreases c.requires in (here.filter c.in-100.is).node c.cond_uses.ensures (λ e h. h)

pub returns-in_default : goal.returns-in_default
unfolding in_query
returns-in_default t c =
    let here : QueryAt t c.args.script.now c.args.terms c.args.left c.args.at = query-at _ _ _ _ _ c.decreases c.requires in let n : length c.args.free ≡ variable_limit = search rules in leaf_walked (here.empty c.in_default.in_default-own.rest) (uses-none c.args.hidden c.args.free n)

pub bounds-script-at : goal.bounds-script-at
bounds-script-at t c =
    let here : QueryAt t c.args.script.now c.args.terms c.args.left c.args.at = query-at _ _ _ _ _ c.decreases c.requires in here.inside

pub overflow_add-first : goal.overflow_add-first
overflow_add-first t c =
    let here : QueryAt t c.args.script.now c.args.terms c.args.left c.args.at = query-at _ _ _ _ _ c.decreases c.requires in omega (arith, here.inside)

pub overflow_sub-below : goal.overflow_sub-below
overflow_sub-below t c =
    let here : QueryAt t c.args.script.now c.args.terms c.args.left c.args.at = query-at _ _ _ _ _ c.decreases c.requires in here.pos
