-- `typing::walk::type_script` meets its contract: one line for each kind; the levels left fall. Assumes nothing.
use lib.ListN.{length}
use native.Mathlib.Omega.{arith}
use Rattle.laws.proofs.Walked.{leaf_walked}
use Rattle.laws.proofs.Productions.{ScriptAt, script-at}
use Rattle.facts.specs.Demands.{query_demands, script_demands}
use Rattle.facts.proofs.TableLaws.{merged-joined}
use Rattle.facts.proofs.WalkLaws.{nothing-noted, then-noted, from-noted, tree-joined, placed-in}
use Rattle.typing.proofs.walk.+type_script.Goals as goal

pub name_at-n-requires : goal.name_at-n-requires
name_at-n-requires t c =
    let here : ScriptAt t c.args.script.now (length c.args.leasts.now) c.args.left c.args.at = script-at _ _ _ _ _ c.decreases c.requires.loads in record { loads = (here.from_named c.in-114.is).first; written_len = c.requires.written_len }

pub node_of-node-requires : goal.node_of-node-requires
node_of-node-requires t c = placed-in _ _ c.name_at-n.ensures

pub merged-between-requires : goal.merged-between-requires
merged-between-requires t c = (c.requires.joined, c.node_of-node.ensures.1, omega arith)

pub type_script-requires : goal.type_script-requires
type_script-requires t c =
    let here : ScriptAt t c.args.script.now (length c.args.leasts.now) c.args.left c.args.at = script-at _ _ _ _ _ c.decreases c.requires.loads in
    let n = here.from_named c.in-114.is in
    (n.falls, (n.second c.name_at-n.ensures, (c.requires.written_len, merged-joined _ _ _ c.requires.joined c.node_of-node.ensures.1 (omega arith) c.merged-between.ensures)))

pub overflow_add-query : goal.overflow_add-query
overflow_add-query t c =
    let here : ScriptAt t c.args.script.now (length c.args.leasts.now) c.args.left c.args.at = script-at _ _ _ _ _ c.decreases c.requires.loads in omega (arith, (here.block c.in-115.is).room)

pub type_query-q-requires : goal.type_query-q-requires
type_query-q-requires t c =
    let here : ScriptAt t c.args.script.now (length c.args.leasts.now) c.args.left c.args.at = script-at _ _ _ _ _ c.decreases c.requires.loads in record { loads = (here.block c.in-115.is).parts.first; written_len = c.requires.written_len; joined = c.requires.joined }

pub type_script-requires-in-115 : goal.type_script-requires-in-115
type_script-requires-in-115 t c =
    let here : ScriptAt t c.args.script.now (length c.args.leasts.now) c.args.left c.args.at = script-at _ _ _ _ _ c.decreases c.requires.loads in
    let n = here.block c.in-115.is in
    (n.parts.falls, (n.parts.second c.type_query-q.ensures, (c.requires.written_len, tree-joined _ _ _ query_demands c.type_query-q.ensures)))

pub type_script-c-requires : goal.type_script-c-requires
type_script-c-requires t c =
    let here : ScriptAt t c.args.script.now (length c.args.leasts.now) c.args.left c.args.at = script-at _ _ _ _ _ c.decreases c.requires.loads in let n = here.sequence c.in_default.in_default-own.rest in (n.falls, (n.first, (c.requires.written_len, c.requires.joined)))

pub type_script-requires-in_default : goal.type_script-requires-in_default
type_script-requires-in_default t c =
    let here : ScriptAt t c.args.script.now (length c.args.leasts.now) c.args.left c.args.at = script-at _ _ _ _ _ c.decreases c.requires.loads in
    let n = here.sequence c.in_default.in_default-own.rest in
    (n.falls, (n.second c.type_script-c.ensures, (c.requires.written_len, tree-joined _ _ _ script_demands c.type_script-c.ensures)))

pub returns-in-113 : goal.returns-in-113
unfolding script_demands
returns-in-113 t c =
    let here : ScriptAt t c.args.script.now (length c.args.leasts.now) c.args.left c.args.at = script-at _ _ _ _ _ c.decreases c.requires.loads in leaf_walked (here.success c.in-113.is) (nothing-noted _ _ c.requires.joined)

pub returns-in-114 : goal.returns-in-114
returns-in-114 t c =
    let here : ScriptAt t c.args.script.now (length c.args.leasts.now) c.args.left c.args.at = script-at _ _ _ _ _ c.decreases c.requires.loads in
    (here.from_named c.in-114.is).node c.name_at-n.ensures c.type_script.ensures
    (λ n a h k. from-noted _ _ _ n a c.requires.joined h c.node_of-node.ensures c.merged-between.ensures k)

pub returns-in-115 : goal.returns-in-115
unfolding script_demands
returns-in-115 t c =
    let here : ScriptAt t c.args.script.now (length c.args.leasts.now) c.args.left c.args.at = script-at _ _ _ _ _ c.decreases c.requires.loads in
    (here.block c.in-115.is).parts.node c.type_query-q.ensures c.type_script-in-115.ensures
    (λ q a h k. then-noted _ _ h k)

pub returns-in_default : goal.returns-in_default
unfolding script_demands
returns-in_default t c =
    let here : ScriptAt t c.args.script.now (length c.args.leasts.now) c.args.left c.args.at = script-at _ _ _ _ _ c.decreases c.requires.loads in
    (here.sequence c.in_default.in_default-own.rest).node c.type_script-c.ensures c.type_script-in_default.ensures
    (λ a b h k. then-noted _ _ h k)

pub bounds-script-at : goal.bounds-script-at
bounds-script-at t c =
    let here : ScriptAt t c.args.script.now (length c.args.leasts.now) c.args.left c.args.at = script-at _ _ _ _ _ c.decreases c.requires.loads in here.inside

pub overflow_add-first : goal.overflow_add-first
overflow_add-first t c =
    let here : ScriptAt t c.args.script.now (length c.args.leasts.now) c.args.left c.args.at = script-at _ _ _ _ _ c.decreases c.requires.loads in omega (arith, here.inside)

pub overflow_sub-below : goal.overflow_sub-below
overflow_sub-below t c =
    let here : ScriptAt t c.args.script.now (length c.args.leasts.now) c.args.left c.args.at = script-at _ _ _ _ _ c.decreases c.requires.loads in here.pos
