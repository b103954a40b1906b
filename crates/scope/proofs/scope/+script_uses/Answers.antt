-- `scope::scope::script_uses` meets its contract.
use borrow.Author.Rules.{rules}
use native.Mathlib.Omega.{arith}
use mathlib.Core.Path.{◌≡◌}
use lib.ListN.{length}
use Rattle.laws.proofs.Walked.{leaf_walked}
use Rattle.laws.proofs.Productions.{ScriptAt, script-at}
use Rattle.definitions.specs.Limits.{variable_limit}
use Rattle.definitions.specs.Scope.{in_name, in_query, is_free}
use Rattle.scope.proofs.UseLaws.{uses-none, uses-both}
use Rattle.scope.proofs.BindLaws.{pairs-at, block-hides}
use Rattle.scope.proofs.scope.+script_uses.Goals as goal

pub name_uses-n-requires : goal.name_uses-n-requires
name_uses-n-requires t c =
    let here : ScriptAt t c.args.script.now c.args.terms c.args.left c.args.at = script-at _ _ _ _ _ c.decreases c.requires in (here.from_named c.in-114.is).first

pub script_uses-requires : goal.script_uses-requires
script_uses-requires t c =
    let here : ScriptAt t c.args.script.now c.args.terms c.args.left c.args.at = script-at _ _ _ _ _ c.decreases c.requires in let n = here.from_named c.in-114.is in (n.falls, n.second c.name_uses-n.ensures)

pub hide_pairs-inside-requires : goal.hide_pairs-inside-requires
hide_pairs-inside-requires t c = pairs-at _ _ _ _ c.requires c.in-115.is

pub overflow_add-at : goal.overflow_add-at
overflow_add-at t c =
    let here : ScriptAt t c.args.script.now c.args.terms c.args.left c.args.at = script-at _ _ _ _ _ c.decreases c.requires in omega (arith, here.block c.in-115.is)

pub query_uses-q-requires : goal.query_uses-q-requires
query_uses-q-requires t c =
    let here : ScriptAt t c.args.script.now c.args.terms c.args.left c.args.at = script-at _ _ _ _ _ c.decreases c.requires in (here.block c.in-115.is).parts.first

pub script_uses-requires-in-115 : goal.script_uses-requires-in-115
script_uses-requires-in-115 t c =
    let here : ScriptAt t c.args.script.now c.args.terms c.args.left c.args.at = script-at _ _ _ _ _ c.decreases c.requires in
    let n = here.block c.in-115.is in
    (n.parts.falls, n.parts.second c.query_uses-q.ensures)

pub script_uses-a-requires : goal.script_uses-a-requires
script_uses-a-requires t c =
    let here : ScriptAt t c.args.script.now c.args.terms c.args.left c.args.at = script-at _ _ _ _ _ c.decreases c.requires in let n = here.sequence c.in_default.in_default-own.rest in (n.falls, n.first)

pub script_uses-requires-in_default : goal.script_uses-requires-in_default
script_uses-requires-in_default t c =
    let here : ScriptAt t c.args.script.now c.args.terms c.args.left c.args.at = script-at _ _ _ _ _ c.decreases c.requires in let n = here.sequence c.in_default.in_default-own.rest in (n.falls, n.second c.script_uses-a.ensures)

pub returns-in-113 : goal.returns-in-113
unfolding is_free
returns-in-113 t c =
    let here : ScriptAt t c.args.script.now c.args.terms c.args.left c.args.at = script-at _ _ _ _ _ c.decreases c.requires in
    let n : length c.args.free ≡ variable_limit = search rules in
    leaf_walked (here.success c.in-113.is) (uses-none c.args.hidden c.args.free n)

pub returns-in-114 : goal.returns-in-114
unfolding is_free
returns-in-114 t c =
    let here : ScriptAt t c.args.script.now c.args.terms c.args.left c.args.at = script-at _ _ _ _ _ c.decreases c.requires in
    (here.from_named c.in-114.is).node c.name_uses-n.ensures c.script_uses.ensures
    (λ n d. uses-both c.args.hidden c.args.free (λ v. in_name v n) (λ v. is_free v d))

pub returns-in-115 : goal.returns-in-115
unfolding is_free
returns-in-115 t c =
    let here : ScriptAt t c.args.script.now c.args.terms c.args.left c.args.at = script-at _ _ _ _ _ c.decreases c.requires in
    let b = here.block c.in-115.is in
    let n : length c.args.hidden ≡ variable_limit = search rules in
    b.parts.node c.query_uses-q.ensures c.script_uses-in-115.ensures
    (λ q d. block-hides c.args.script.now c.args.at b.binders b.listed c.args.hidden c.args.free (λ v. in_query v q) (λ v. is_free v d) n c.hide_pairs-inside.ensures)

pub returns-in_default : goal.returns-in_default
unfolding is_free
returns-in_default t c =
    let here : ScriptAt t c.args.script.now c.args.terms c.args.left c.args.at = script-at _ _ _ _ _ c.decreases c.requires in
    (here.sequence c.in_default.in_default-own.rest).node c.script_uses-a.ensures c.script_uses-in_default.ensures
    (λ a d. uses-both c.args.hidden c.args.free (λ v. is_free v a) (λ v. is_free v d))

pub bounds-script-at : goal.bounds-script-at
bounds-script-at t c =
    let here : ScriptAt t c.args.script.now c.args.terms c.args.left c.args.at = script-at _ _ _ _ _ c.decreases c.requires in here.inside

pub overflow_add-first : goal.overflow_add-first
overflow_add-first t c =
    let here : ScriptAt t c.args.script.now c.args.terms c.args.left c.args.at = script-at _ _ _ _ _ c.decreases c.requires in omega (arith, here.inside)

pub overflow_sub-below : goal.overflow_sub-below
overflow_sub-below t c =
    let here : ScriptAt t c.args.script.now c.args.terms c.args.left c.args.at = script-at _ _ _ _ _ c.decreases c.requires in here.pos
