-- `places::place_from` meets its contract.
use native.Mathlib.Omega.{arith}
use mathlib.Core.Path.{refl}
use Rattle.laws.proofs.Walked.{leaf_walked}
use Rattle.laws.proofs.Productions.{ScriptAt, script-at}
use Rattle.places.proofs.PlaceLaws.{success-place, named-place, block-place, sequence-place}
use Rattle.places.proofs.+place_from.Goals as goal

pub after_name-next-requires : goal.after_name-next-requires
after_name-next-requires t c =
    let here : ScriptAt t c.args.script.now c.args.terms c.args.left c.args.at = script-at _ _ _ _ _ c.decreases c.requires.loads in (here.from_named c.in-114.is).first

pub place_from-c-requires : goal.place_from-c-requires
place_from-c-requires t c =
    let here : ScriptAt t c.args.script.now c.args.terms c.args.left c.args.at = script-at _ _ _ _ _ c.decreases c.requires.loads in let n = here.from_named c.in-114.is in (n.falls, (n.second c.after_name-next.ensures, omega (arith, here.pos)))

pub overflow_add-at : goal.overflow_add-at
overflow_add-at t c =
    let here : ScriptAt t c.args.script.now c.args.terms c.args.left c.args.at = script-at _ _ _ _ _ c.decreases c.requires.loads in omega (arith, here.block c.in-115.is)

pub after_query-next-requires : goal.after_query-next-requires
after_query-next-requires t c =
    let here : ScriptAt t c.args.script.now c.args.terms c.args.left c.args.at = script-at _ _ _ _ _ c.decreases c.requires.loads in (here.block c.in-115.is).parts.first

pub place_from-c-requires-in-115 : goal.place_from-c-requires-in-115
place_from-c-requires-in-115 t c =
    let here : ScriptAt t c.args.script.now c.args.terms c.args.left c.args.at = script-at _ _ _ _ _ c.decreases c.requires.loads in
    let n = here.block c.in-115.is in
    (n.parts.falls, (n.parts.second c.after_query-next.ensures, omega (arith, here.pos)))

pub place_from-c-requires-in_default : goal.place_from-c-requires-in_default
place_from-c-requires-in_default t c =
    let here : ScriptAt t c.args.script.now c.args.terms c.args.left c.args.at = script-at _ _ _ _ _ c.decreases c.requires.loads in let n = here.sequence c.in_default.in_default-own.rest in (n.falls, (n.first, omega (arith, here.pos)))

pub place_from-d-requires : goal.place_from-d-requires
place_from-d-requires t c =
    let here : ScriptAt t c.args.script.now c.args.terms c.args.left c.args.at = script-at _ _ _ _ _ c.decreases c.requires.loads in
    let n = here.sequence c.in_default.in_default-own.rest in
    (n.falls, (n.second c.place_from-c-in_default.ensures, omega (arith, here.pos)))

pub returns-in-113 : goal.returns-in-113
returns-in-113 t c =
    let here : ScriptAt t c.args.script.now c.args.terms c.args.left c.args.at = script-at _ _ _ _ _ c.decreases c.requires.loads in
    leaf_walked (here.success c.in-113.is) (success-place c.args.wanted c.args.at c.args.depth c.own_place-place.ensures refl)

pub returns-in-114 : goal.returns-in-114
returns-in-114 t c =
    let here : ScriptAt t c.args.script.now c.args.terms c.args.left c.args.at = script-at _ _ _ _ _ c.decreases c.requires.loads in
    (here.from_named c.in-114.is).node c.after_name-next.ensures c.place_from-c.ensures
    (λ n d u h. named-place c.args.wanted c.args.at c.args.depth c.own_place-place-in-114.ensures n d h)

pub returns-in-115 : goal.returns-in-115
returns-in-115 t c =
    let here : ScriptAt t c.args.script.now c.args.terms c.args.left c.args.at = script-at _ _ _ _ _ c.decreases c.requires.loads in
    (here.block c.in-115.is).parts.node c.after_query-next.ensures c.place_from-c-in-115.ensures
    (λ q d u h. block-place c.args.wanted c.args.at c.args.depth c.own_place-place-in-115.ensures _ _ q d h)

pub returns-in_default : goal.returns-in_default
returns-in_default t c =
    let here : ScriptAt t c.args.script.now c.args.terms c.args.left c.args.at = script-at _ _ _ _ _ c.decreases c.requires.loads in
    (here.sequence c.in_default.in_default-own.rest).node c.place_from-c-in_default.ensures
    c.place_from-d.ensures (λ a d g h. sequence-place c.args.wanted c.args.at c.args.depth c.own_place-place-in_default.ensures a d c.or.ensures g h)

pub bounds-script-at : goal.bounds-script-at
bounds-script-at t c =
    let here : ScriptAt t c.args.script.now c.args.terms c.args.left c.args.at = script-at _ _ _ _ _ c.decreases c.requires.loads in here.inside

pub overflow_add-first : goal.overflow_add-first
overflow_add-first t c =
    let here : ScriptAt t c.args.script.now c.args.terms c.args.left c.args.at = script-at _ _ _ _ _ c.decreases c.requires.loads in omega (arith, here.inside)

pub overflow_sub-below : goal.overflow_sub-below
overflow_sub-below t c =
    let here : ScriptAt t c.args.script.now c.args.terms c.args.left c.args.at = script-at _ _ _ _ _ c.decreases c.requires.loads in here.pos

pub overflow_add-deeper : goal.overflow_add-deeper
overflow_add-deeper t c =
    let here : ScriptAt t c.args.script.now c.args.terms c.args.left c.args.at = script-at _ _ _ _ _ c.decreases c.requires.loads in omega (arith, here.pos)
