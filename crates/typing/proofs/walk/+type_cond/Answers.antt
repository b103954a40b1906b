-- `typing::walk::type_cond` meets its contract: one line for each kind; the levels left fall. Assumes nothing.
use lib.ListN.{length}
use native.Mathlib.Omega.{arith}
use Rattle.laws.proofs.Walked.{leaf_walked}
use Rattle.laws.proofs.Productions.{CondAt, cond-at}
use Rattle.facts.specs.Demands.{cond_demands}
use Rattle.facts.proofs.WalkLaws.{leaf-read, both_read, no_lower, leaf-noted, both-noted, tree-joined}
use Rattle.typing.proofs.walk.+type_cond.Goals.{in_default-via-then-kind-lt80, in_default-via-else-kind-lt80+else-kind-lt82+else-kind-lt84}
use Rattle.typing.proofs.walk.+type_cond.Goals as goal

pub type_cond-requires : goal.type_cond-requires
type_cond-requires t c =
    let here : CondAt t c.args.script.now (length c.args.leasts.now) c.args.left c.args.at = cond-at _ _ _ _ _ c.decreases c.requires.loads in let n = here.not c.in-84.is in (n.falls, (n.child, (c.requires.written_len, c.requires.joined)))

pub type_cond-a-requires : goal.type_cond-a-requires
type_cond-a-requires t c =
    let here : CondAt t c.args.script.now (length c.args.leasts.now) c.args.left c.args.at = cond-at _ _ _ _ _ c.decreases c.requires.loads in
    let n = (both_read here (omega arith) (omega arith)).parts in
    (n.falls, (n.first, (c.requires.written_len, c.requires.joined)))

pub type_cond-requires-in-82-to-83 : goal.type_cond-requires-in-82-to-83
type_cond-requires-in-82-to-83 t c =
    let here : CondAt t c.args.script.now (length c.args.leasts.now) c.args.left c.args.at = cond-at _ _ _ _ _ c.decreases c.requires.loads in
    let n = (both_read here (omega arith) (omega arith)).parts in
    (n.falls, (n.second c.type_cond-a.ensures, (c.requires.written_len, tree-joined _ _ _ cond_demands c.type_cond-a.ensures)))

pub type_test-requires : goal.type_test-requires
type_test-requires t c = record {
  loads = c.requires.loads;
  bound = elim c.in_default.branch [
    | in_default-via-then-kind-lt80 w ↦ absurd (no_lower _ _ _ _ c.requires.loads (omega arith))
    | in_default-via-else-kind-lt80+else-kind-lt82+else-kind-lt84 w ↦ omega arith
  ];
  written_len = c.requires.written_len;
  joined = c.requires.joined;
}

pub returns-in-84 : goal.returns-in-84
unfolding cond_demands
returns-in-84 t c =
    let here : CondAt t c.args.script.now (length c.args.leasts.now) c.args.left c.args.at = cond-at _ _ _ _ _ c.decreases c.requires.loads in (here.not c.in-84.is).node c.type_cond.ensures (λ a h. h)

pub returns-in-80-to-81 : goal.returns-in-80-to-81
returns-in-80-to-81 t c =
    let here : CondAt t c.args.script.now (length c.args.leasts.now) c.args.left c.args.at = cond-at _ _ _ _ _ c.decreases c.requires.loads in
    let k = leaf-read here (omega arith) (omega arith) in
    leaf_walked k.1 (leaf-noted _ _ k.0 k.2 c.requires.joined)

pub returns-in-82-to-83 : goal.returns-in-82-to-83
returns-in-82-to-83 t c =
    let here : CondAt t c.args.script.now (length c.args.leasts.now) c.args.left c.args.at = cond-at _ _ _ _ _ c.decreases c.requires.loads in
    let k = both_read here (omega arith) (omega arith) in
    k.parts.node c.type_cond-a.ensures c.type_cond-in-82-to-83.ensures (λ a b x y. both-noted _ _ a b _ (k.means a b) x y)

pub returns-in_default : goal.returns-in_default
returns-in_default t c = c.type_test.ensures

pub bounds-script-at : goal.bounds-script-at
bounds-script-at t c =
    let here : CondAt t c.args.script.now (length c.args.leasts.now) c.args.left c.args.at = cond-at _ _ _ _ _ c.decreases c.requires.loads in here.inside

pub overflow_add-first : goal.overflow_add-first
overflow_add-first t c =
    let here : CondAt t c.args.script.now (length c.args.leasts.now) c.args.left c.args.at = cond-at _ _ _ _ _ c.decreases c.requires.loads in omega (arith, here.inside)

pub overflow_sub-below : goal.overflow_sub-below
overflow_sub-below t c =
    let here : CondAt t c.args.script.now (length c.args.leasts.now) c.args.left c.args.at = cond-at _ _ _ _ _ c.decreases c.requires.loads in here.pos
