-- `totals::count_records` meets its contract.
use native.Mathlib.Omega.{arith}
use borrow.Author.Tests.{ne_eqb}
use mathlib.Core.Path.{refl, sym, ◌∙◌}
use Rattle.definitions.specs.Total.{script_records, has_each}
use Rattle.laws.proofs.Walked.{leaf_walked}
use Rattle.laws.proofs.Productions.{ScriptAt, script-at}
use Rattle.totals.proofs.TotalLaws.{counted-fits}
use Rattle.totals.proofs.+count_records.Goals as goal

pub after_name-next-requires : goal.after_name-next-requires
after_name-next-requires t c =
    let here : ScriptAt t c.args.script.now c.args.terms c.args.left c.args.at = script-at _ _ _ _ _ c.decreases c.requires in (here.from_named c.in-114.is).first

pub count_records-c-requires : goal.count_records-c-requires
count_records-c-requires t c =
    let here : ScriptAt t c.args.script.now c.args.terms c.args.left c.args.at = script-at _ _ _ _ _ c.decreases c.requires in let n = here.from_named c.in-114.is in (n.falls, n.second c.after_name-next.ensures)

pub overflow_add-records : goal.overflow_add-records
overflow_add-records t c = omega (arith, counted-fits _ _ _ _ c.count_records-c.ensures)

pub bounds-script-first : goal.bounds-script-first
bounds-script-first t c =
    let here : ScriptAt t c.args.script.now c.args.terms c.args.left c.args.at = script-at _ _ _ _ _ c.decreases c.requires in omega (arith, (here.block c.in-115.is).room)

pub overflow_add-at : goal.overflow_add-at
overflow_add-at t c =
    let here : ScriptAt t c.args.script.now c.args.terms c.args.left c.args.at = script-at _ _ _ _ _ c.decreases c.requires in omega (arith, (here.block c.in-115.is).room)

pub after_query-next-requires : goal.after_query-next-requires
after_query-next-requires t c =
    let here : ScriptAt t c.args.script.now c.args.terms c.args.left c.args.at = script-at _ _ _ _ _ c.decreases c.requires in (here.block c.in-115.is).parts.first

pub count_records-inner-requires : goal.count_records-inner-requires
count_records-inner-requires t c =
    let here : ScriptAt t c.args.script.now c.args.terms c.args.left c.args.at = script-at _ _ _ _ _ c.decreases c.requires in
    let n = here.block c.in-115.is in (n.parts.falls, n.parts.second c.after_query-next.ensures)

pub overflow_add-records-in-115 : goal.overflow_add-records-in-115
overflow_add-records-in-115 t c = omega (arith, counted-fits _ _ _ _ c.count_records-inner.ensures)

pub count_records-a-requires : goal.count_records-a-requires
count_records-a-requires t c =
    let here : ScriptAt t c.args.script.now c.args.terms c.args.left c.args.at = script-at _ _ _ _ _ c.decreases c.requires in let n = here.sequence c.in_default.in_default-own.rest in (n.falls, n.first)

pub count_records-b-requires : goal.count_records-b-requires
count_records-b-requires t c =
    let here : ScriptAt t c.args.script.now c.args.terms c.args.left c.args.at = script-at _ _ _ _ _ c.decreases c.requires in let n = here.sequence c.in_default.in_default-own.rest in (n.falls, n.second c.count_records-a.ensures)

pub overflow_add-records-in_default-2 : goal.overflow_add-records-in_default-2
overflow_add-records-in_default-2 t c = omega (arith, counted-fits _ _ _ _ c.count_records-a.ensures, counted-fits _ _ _ _ c.count_records-b.ensures)

pub overflow_add-records-in_default : goal.overflow_add-records-in_default
overflow_add-records-in_default t c = omega (arith, counted-fits _ _ _ _ c.count_records-a.ensures, counted-fits _ _ _ _ c.count_records-b.ensures)

pub returns-in-113 : goal.returns-in-113
unfolding script_records has_each
returns-in-113 t c =
    let here : ScriptAt t c.args.script.now c.args.terms c.args.left c.args.at = script-at _ _ _ _ _ c.decreases c.requires in leaf_walked (here.success c.in-113.is) (refl, refl)

pub returns-in-114 : goal.returns-in-114
unfolding script_records has_each
returns-in-114 t c =
    let here : ScriptAt t c.args.script.now c.args.terms c.args.left c.args.at = script-at _ _ _ _ _ c.decreases c.requires in
    (here.from_named c.in-114.is).node c.after_name-next.ensures c.count_records-c.ensures
    (λ n d u h. (omega (arith, h.0), h.1))

pub returns-then-own : goal.returns-then-own
unfolding script_records has_each
returns-then-own t c =
    let here : ScriptAt t c.args.script.now c.args.terms c.args.left c.args.at = script-at _ _ _ _ _ c.decreases c.requires in
    (here.block c.in-115.is).parts.node c.after_query-next.ensures c.count_records-inner.ensures (λ q d u h. (omega (arith, h.0), rw c.if-own.true))

pub returns-else-own : goal.returns-else-own
unfolding script_records has_each
returns-else-own t c =
    let here : ScriptAt t c.args.script.now c.args.terms c.args.left c.args.at = script-at _ _ _ _ _ c.decreases c.requires in
    (here.block c.in-115.is).parts.node c.after_query-next.ensures c.count_records-inner.ensures (λ q d u h. (omega (arith, h.0), rw (ne_eqb _ _ c.if-own.false) h.1))

pub returns-then-a : goal.returns-then-a
unfolding script_records has_each
returns-then-a t c =
    let here : ScriptAt t c.args.script.now c.args.terms c.args.left c.args.at = script-at _ _ _ _ _ c.decreases c.requires in
    (here.sequence c.in_default.in_default-own.rest).node c.count_records-a.ensures
    c.count_records-b.ensures (λ a d g h. (omega (arith, g.0, h.0), rw (sym g.1 ∙ c.if-a.true) c.if-a.true))

pub returns-else-a : goal.returns-else-a
unfolding script_records has_each
returns-else-a t c =
    let here : ScriptAt t c.args.script.now c.args.terms c.args.left c.args.at = script-at _ _ _ _ _ c.decreases c.requires in
    (here.sequence c.in_default.in_default-own.rest).node c.count_records-a.ensures
    c.count_records-b.ensures (λ a d g h. (omega (arith, g.0, h.0), rw (sym g.1 ∙ c.if-a.false) h.1))

pub bounds-script-at : goal.bounds-script-at
bounds-script-at t c =
    let here : ScriptAt t c.args.script.now c.args.terms c.args.left c.args.at = script-at _ _ _ _ _ c.decreases c.requires in here.inside

pub overflow_add-first : goal.overflow_add-first
overflow_add-first t c =
    let here : ScriptAt t c.args.script.now c.args.terms c.args.left c.args.at = script-at _ _ _ _ _ c.decreases c.requires in omega (arith, here.inside)

pub overflow_sub-below : goal.overflow_sub-below
overflow_sub-below t c =
    let here : ScriptAt t c.args.script.now c.args.terms c.args.left c.args.at = script-at _ _ _ _ _ c.decreases c.requires in here.pos
