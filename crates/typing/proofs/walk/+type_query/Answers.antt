-- `typing::walk::type_query` meets its contract: one line for each kind; the levels left fall. Assumes nothing.
use lib.ListN.{length}
use native.Mathlib.Omega.{arith}
use mathlib.Core.Logic.{inl, inr}
use Rattle.laws.proofs.Walked.{leaf_walked}
use Rattle.laws.proofs.Productions.{QueryAt, query-at}
use Rattle.facts.specs.Demands.{query_demands}
use Rattle.facts.proofs.WalkLaws.{either-read, empty-read, nothing-noted, either-noted, walked_as, tree-joined}
use Rattle.typing.proofs.walk.+type_query.Goals as goal

pub type_pattern-requires : goal.type_pattern-requires
type_pattern-requires t c =
    let here : QueryAt t c.args.script.now (length c.args.leasts.now) c.args.left c.args.at = query-at _ _ _ _ _ c.decreases c.requires.loads in record { loads = (here.pattern c.in-97.is).all; written_len = c.requires.written_len; joined = c.requires.joined }

pub type_cond-requires : goal.type_cond-requires
type_cond-requires t c =
    let here : QueryAt t c.args.script.now (length c.args.leasts.now) c.args.left c.args.at = query-at _ _ _ _ _ c.decreases c.requires.loads in record { loads = (here.filter c.in-100.is).child; written_len = c.requires.written_len; joined = c.requires.joined }

pub type_query-q-requires : goal.type_query-q-requires
type_query-q-requires t c =
    let here : QueryAt t c.args.script.now (length c.args.leasts.now) c.args.left c.args.at = query-at _ _ _ _ _ c.decreases c.requires.loads in
    let n = (either-read here (omega arith) (omega arith)).parts in
    (n.falls, (n.first, (c.requires.written_len, c.requires.joined)))

pub type_query-requires : goal.type_query-requires
type_query-requires t c =
    let here : QueryAt t c.args.script.now (length c.args.leasts.now) c.args.left c.args.at = query-at _ _ _ _ _ c.decreases c.requires.loads in
    let n = (either-read here (omega arith) (omega arith)).parts in
    let j = tree-joined _ _ _ query_demands c.type_query-q.ensures in
    (n.falls, (n.second c.type_query-q.ensures, (c.requires.written_len, j)))

pub returns-in-97 : goal.returns-in-97
returns-in-97 t c =
    let here : QueryAt t c.args.script.now (length c.args.leasts.now) c.args.left c.args.at = query-at _ _ _ _ _ c.decreases c.requires.loads in walked_as (here.pattern c.in-97.is).read c.type_pattern.ensures

pub returns-in-100 : goal.returns-in-100
unfolding query_demands
returns-in-100 t c =
    let here : QueryAt t c.args.script.now (length c.args.leasts.now) c.args.left c.args.at = query-at _ _ _ _ _ c.decreases c.requires.loads in (here.filter c.in-100.is).node c.type_cond.ensures (λ a h. h)

pub returns-in-98-to-99 : goal.returns-in-98-to-99
returns-in-98-to-99 t c =
    let here : QueryAt t c.args.script.now (length c.args.leasts.now) c.args.left c.args.at = query-at _ _ _ _ _ c.decreases c.requires.loads in
    let k = either-read here (omega arith) (omega arith) in
    k.parts.node c.type_query-q.ensures c.type_query.ensures (λ a b x y. either-noted _ _ a b _ (k.means a b) x y)

pub returns-in_default : goal.returns-in_default
unfolding query_demands
returns-in_default t c =
    let here : QueryAt t c.args.script.now (length c.args.leasts.now) c.args.left c.args.at = query-at _ _ _ _ _ c.decreases c.requires.loads in leaf_walked (empty-read here ((tt, λ e. omega arith), λ e. omega arith) (inl (omega arith))) (nothing-noted _ _ c.requires.joined)

pub returns-in_default-2 : goal.returns-in_default-2
unfolding query_demands
returns-in_default-2 t c =
    let here : QueryAt t c.args.script.now (length c.args.leasts.now) c.args.left c.args.at = query-at _ _ _ _ _ c.decreases c.requires.loads in
    leaf_walked (empty-read here ((tt, λ e. omega arith), λ e. omega arith) (inr (omega arith))) (nothing-noted _ _ c.requires.joined)

pub bounds-script-at : goal.bounds-script-at
bounds-script-at t c =
    let here : QueryAt t c.args.script.now (length c.args.leasts.now) c.args.left c.args.at = query-at _ _ _ _ _ c.decreases c.requires.loads in here.inside

pub overflow_add-first : goal.overflow_add-first
overflow_add-first t c =
    let here : QueryAt t c.args.script.now (length c.args.leasts.now) c.args.left c.args.at = query-at _ _ _ _ _ c.decreases c.requires.loads in omega (arith, here.inside)

pub overflow_sub-below : goal.overflow_sub-below
overflow_sub-below t c =
    let here : QueryAt t c.args.script.now (length c.args.leasts.now) c.args.left c.args.at = query-at _ _ _ _ _ c.decreases c.requires.loads in here.pos
