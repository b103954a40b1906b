-- `typing::pairs::note_script` meets its contract: one line for each kind; the levels left fall. Assumes nothing.
use native.Mathlib.Omega.{arith}
use mathlib.Core.Path.{refl}
use Rattle.laws.proofs.Walked.{leaf_walked}
use Rattle.laws.proofs.Productions.{ScriptAt, script-at}
use Rattle.definitions.specs.Scope.{binders_of}
use Rattle.scope.proofs.BindLaws.{pairs-at}
use Rattle.typing.specs.Pairs.{binders_noted}
use Rattle.typing.proofs.PairLaws.{block_noted, two-noted}
use Rattle.typing.proofs.pairs.+note_script.Goals as goal

pub after_name-next-requires : goal.after_name-next-requires
after_name-next-requires t c =
    let here : ScriptAt t c.args.script.now c.args.terms c.args.left c.args.at = script-at _ _ _ _ _ c.decreases c.requires in (here.from_named c.in-114.is).first

pub note_script-requires : goal.note_script-requires
note_script-requires t c =
    let here : ScriptAt t c.args.script.now c.args.terms c.args.left c.args.at = script-at _ _ _ _ _ c.decreases c.requires in let n = here.from_named c.in-114.is in (n.falls, n.second c.after_name-next.ensures)

pub note_pairs-pairs-requires : goal.note_pairs-pairs-requires
note_pairs-pairs-requires t c = pairs-at _ _ _ _ c.requires c.in-115.is

pub overflow_add-at : goal.overflow_add-at
overflow_add-at t c =
    let here : ScriptAt t c.args.script.now c.args.terms c.args.left c.args.at = script-at _ _ _ _ _ c.decreases c.requires in omega (arith, here.block c.in-115.is)

pub after_query-next-requires : goal.after_query-next-requires
after_query-next-requires t c =
    let here : ScriptAt t c.args.script.now c.args.terms c.args.left c.args.at = script-at _ _ _ _ _ c.decreases c.requires in (here.block c.in-115.is).parts.first

pub note_script-requires-in-115 : goal.note_script-requires-in-115
note_script-requires-in-115 t c =
    let here : ScriptAt t c.args.script.now c.args.terms c.args.left c.args.at = script-at _ _ _ _ _ c.decreases c.requires in let n = here.block c.in-115.is in (n.parts.falls, n.parts.second c.after_query-next.ensures)

pub note_script-a-requires : goal.note_script-a-requires
note_script-a-requires t c =
    let here : ScriptAt t c.args.script.now c.args.terms c.args.left c.args.at = script-at _ _ _ _ _ c.decreases c.requires in let n = here.sequence c.in_default.in_default-own.rest in (n.falls, n.first)

pub note_script-requires-in_default : goal.note_script-requires-in_default
note_script-requires-in_default t c =
    let here : ScriptAt t c.args.script.now c.args.terms c.args.left c.args.at = script-at _ _ _ _ _ c.decreases c.requires in let n = here.sequence c.in_default.in_default-own.rest in (n.falls, n.second c.note_script-a.ensures)

pub returns-in-113 : goal.returns-in-113
unfolding binders_of binders_noted
returns-in-113 t c =
    let here : ScriptAt t c.args.script.now c.args.terms c.args.left c.args.at = script-at _ _ _ _ _ c.decreases c.requires in leaf_walked (here.success c.in-113.is) refl

pub returns-in-114 : goal.returns-in-114
unfolding binders_of
returns-in-114 t c =
    let here : ScriptAt t c.args.script.now c.args.terms c.args.left c.args.at = script-at _ _ _ _ _ c.decreases c.requires in (here.from_named c.in-114.is).node c.after_name-next.ensures c.note_script.ensures (λ n d u h. h)

pub returns-in-115 : goal.returns-in-115
unfolding binders_of
returns-in-115 t c =
    let here : ScriptAt t c.args.script.now c.args.terms c.args.left c.args.at = script-at _ _ _ _ _ c.decreases c.requires in
    let n = here.block c.in-115.is in
    n.parts.node c.after_query-next.ensures c.note_script-in-115.ensures
    (λ q d u. block_noted c.args.script.now c.args.at n.binders n.listed c.args.codes (binders_of d) c.note_pairs-pairs.ensures)

pub returns-in_default : goal.returns-in_default
unfolding binders_of
returns-in_default t c =
    let here : ScriptAt t c.args.script.now c.args.terms c.args.left c.args.at = script-at _ _ _ _ _ c.decreases c.requires in
    (here.sequence c.in_default.in_default-own.rest).node c.note_script-a.ensures c.note_script-in_default.ensures
    (λ a d. two-noted c.args.codes (binders_of a) (binders_of d))

pub bounds-script-at : goal.bounds-script-at
bounds-script-at t c =
    let here : ScriptAt t c.args.script.now c.args.terms c.args.left c.args.at = script-at _ _ _ _ _ c.decreases c.requires in here.inside

pub overflow_add-first : goal.overflow_add-first
overflow_add-first t c =
    let here : ScriptAt t c.args.script.now c.args.terms c.args.left c.args.at = script-at _ _ _ _ _ c.decreases c.requires in omega (arith, here.inside)

pub overflow_sub-below : goal.overflow_sub-below
overflow_sub-below t c =
    let here : ScriptAt t c.args.script.now c.args.terms c.args.left c.args.at = script-at _ _ _ _ _ c.decreases c.requires in here.pos
