-- `typing::walk::type_test` meets its contract: one line for each kind. Assumes nothing.
use native.Mathlib.Omega.{arith}
use mathlib.Core.Path.{refl}
use lib.ListN.{length}
use Rattle.laws.proofs.Productions.{CondAt, cond-at}
use Rattle.facts.specs.Demands.{cond_demands}
use Rattle.facts.proofs.WalkLaws.{compare-read, string-noted, alike-noted, expr-joined}
use Rattle.typing.proofs.walk.type_test.Goals as goal

pub overflow_add-text : goal.overflow_add-text
overflow_add-text c =
    let here : CondAt c.args.left c.args.script.now (length c.args.leasts.now) c.args.left c.args.at = cond-at _ _ _ _ _ refl c.requires.loads in omega (arith, (here.regex c.in-85.is).room)

pub type_expr-e-requires : goal.type_expr-e-requires
type_expr-e-requires c =
    let here : CondAt c.args.left c.args.script.now (length c.args.leasts.now) c.args.left c.args.at = cond-at _ _ _ _ _ refl c.requires.loads in record { loads = (here.regex c.in-85.is).rest.child; written_len = c.requires.written_len; joined = c.requires.joined }

pub overflow_add-text-in-86 : goal.overflow_add-text-in-86
overflow_add-text-in-86 c =
    let here : CondAt c.args.left c.args.script.now (length c.args.leasts.now) c.args.left c.args.at = cond-at _ _ _ _ _ refl c.requires.loads in omega (arith, (here.lang_matches c.in-86.is).room)

pub type_expr-e-requires-in-86 : goal.type_expr-e-requires-in-86
type_expr-e-requires-in-86 c =
    let here : CondAt c.args.left c.args.script.now (length c.args.leasts.now) c.args.left c.args.at = cond-at _ _ _ _ _ refl c.requires.loads in record { loads = (here.lang_matches c.in-86.is).rest.child; written_len = c.requires.written_len; joined = c.requires.joined }

pub type_expr-e-requires-in_default : goal.type_expr-e-requires-in_default
type_expr-e-requires-in_default c =
    let here : CondAt c.args.left c.args.script.now (length c.args.leasts.now) c.args.left c.args.at = cond-at _ _ _ _ _ refl c.requires.loads in record { loads = (compare-read here c.requires.bound c.in_default.in_default-own.rest).parts.first; written_len = c.requires.written_len; joined = c.requires.joined }

pub type_expr-f-requires : goal.type_expr-f-requires
type_expr-f-requires c =
    let here : CondAt c.args.left c.args.script.now (length c.args.leasts.now) c.args.left c.args.at = cond-at _ _ _ _ _ refl c.requires.loads in
    let n = (compare-read here c.requires.bound c.in_default.in_default-own.rest).parts in record { loads = n.second c.type_expr-e-in_default.ensures; written_len = c.requires.written_len; joined = expr-joined _ _ _ c.type_expr-e-in_default.ensures }

pub returns-in-85 : goal.returns-in-85
unfolding cond_demands
returns-in-85 c =
    let here : CondAt c.args.left c.args.script.now (length c.args.leasts.now) c.args.left c.args.at = cond-at _ _ _ _ _ refl c.requires.loads in (here.regex c.in-85.is).rest.node c.type_expr-e.ensures (λ e h. string-noted _ _ e h c.merged-after.ensures)

pub returns-in-86 : goal.returns-in-86
unfolding cond_demands
returns-in-86 c =
    let here : CondAt c.args.left c.args.script.now (length c.args.leasts.now) c.args.left c.args.at = cond-at _ _ _ _ _ refl c.requires.loads in
    (here.lang_matches c.in-86.is).rest.node c.type_expr-e-in-86.ensures (λ e h. string-noted _ _ e h c.merged-after-in-86.ensures)

pub returns-in_default : goal.returns-in_default
returns-in_default c =
    let here : CondAt c.args.left c.args.script.now (length c.args.leasts.now) c.args.left c.args.at = cond-at _ _ _ _ _ refl c.requires.loads in
    let k = compare-read here c.requires.bound c.in_default.in_default-own.rest in
    k.parts.node c.type_expr-e-in_default.ensures c.type_expr-f.ensures (λ e f x y. alike-noted _ _ e f _ (k.means e f) x y c.merged-after-in_default.ensures)

pub bounds-script-at : goal.bounds-script-at
bounds-script-at c =
    let here : CondAt c.args.left c.args.script.now (length c.args.leasts.now) c.args.left c.args.at = cond-at _ _ _ _ _ refl c.requires.loads in here.inside

pub overflow_sub-below : goal.overflow_sub-below
overflow_sub-below c =
    let here : CondAt c.args.left c.args.script.now (length c.args.leasts.now) c.args.left c.args.at = cond-at _ _ _ _ _ refl c.requires.loads in here.pos

pub overflow_add-first : goal.overflow_add-first
overflow_add-first c =
    let here : CondAt c.args.left c.args.script.now (length c.args.leasts.now) c.args.left c.args.at = cond-at _ _ _ _ _ refl c.requires.loads in omega (arith, here.inside)
