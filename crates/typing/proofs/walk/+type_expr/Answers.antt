-- `typing::walk::type_expr` meets its contract: one line for each kind; the levels left fall. Assumes nothing.
use lib.ListN.{length}
use native.Mathlib.Omega.{arith}
use Rattle.laws.proofs.Walked.{leaf_walked}
use Rattle.laws.proofs.Productions.{ExprAt, expr-at}
use Rattle.facts.proofs.WalkLaws.{name-noted, now-noted, str-noted, abs-noted, sum-read, sum-noted, placed-in, expr-joined, expr-small, merged-again}
use Rattle.typing.proofs.walk.+type_expr.Goals as goal

pub name_at-n-requires : goal.name_at-n-requires
name_at-n-requires t c =
    let here : ExprAt t c.args.script.now (length c.args.leasts.now) c.args.left c.args.at = expr-at _ _ _ _ _ c.decreases c.requires.loads in record { loads = (here.name c.if-kind-lt65.true).child; written_len = c.requires.written_len }

pub node_of-node-requires : goal.node_of-node-requires
node_of-node-requires t c = placed-in _ _ c.name_at-n.ensures

pub returns-then-kind-lt65 : goal.returns-then-kind-lt65
returns-then-kind-lt65 t c =
    let here : ExprAt t c.args.script.now (length c.args.leasts.now) c.args.left c.args.at = expr-at _ _ _ _ _ c.decreases c.requires.loads in
    (here.name c.if-kind-lt65.true).node c.name_at-n.ensures
    (λ n h. name-noted _ _ n c.requires.joined h c.node_of-node.ensures)

pub type_expr-e-requires : goal.type_expr-e-requires
type_expr-e-requires t c =
    let here : ExprAt t c.args.script.now (length c.args.leasts.now) c.args.left c.args.at = expr-at _ _ _ _ _ c.decreases c.requires.loads in let n = here.str c.in-66.is in (n.falls, (n.child, (c.requires.written_len, c.requires.joined)))

pub type_expr-e-requires-in-67 : goal.type_expr-e-requires-in-67
type_expr-e-requires-in-67 t c =
    let here : ExprAt t c.args.script.now (length c.args.leasts.now) c.args.left c.args.at = expr-at _ _ _ _ _ c.decreases c.requires.loads in let n = here.abs c.in-67.is in (n.falls, (n.child, (c.requires.written_len, c.requires.joined)))

pub merged-after-requires : goal.merged-after-requires
merged-after-requires t c = (expr-joined _ _ _ c.type_expr-e-in-67.ensures, expr-small _ _ _ c.type_expr-e-in-67.ensures, omega arith)

pub type_expr-e-requires-in_default : goal.type_expr-e-requires-in_default
type_expr-e-requires-in_default t c =
    let here : ExprAt t c.args.script.now (length c.args.leasts.now) c.args.left c.args.at = expr-at _ _ _ _ _ c.decreases c.requires.loads in let n = (sum-read here c.if-kind-lt65.false c.in_default.in_default-own.rest).parts in (n.falls, (n.first, (c.requires.written_len, c.requires.joined)))

pub type_expr-f-requires : goal.type_expr-f-requires
type_expr-f-requires t c =
    let here : ExprAt t c.args.script.now (length c.args.leasts.now) c.args.left c.args.at = expr-at _ _ _ _ _ c.decreases c.requires.loads in
    let n = (sum-read here c.if-kind-lt65.false c.in_default.in_default-own.rest).parts in
    (n.falls, (n.second c.type_expr-e-in_default.ensures, (c.requires.written_len, expr-joined _ _ _ c.type_expr-e-in_default.ensures)))

pub merged-requires : goal.merged-requires
merged-requires t c = (expr-joined _ _ _ c.type_expr-f.ensures, expr-small _ _ _ c.type_expr-e-in_default.ensures, omega arith)

pub merged-after-requires-in_default : goal.merged-after-requires-in_default
merged-after-requires-in_default t c = (
  merged-again _ _ (expr-joined _ _ _ c.type_expr-f.ensures) (expr-small _ _ _ c.type_expr-e-in_default.ensures) c.merged.ensures,
  expr-small _ _ _ c.type_expr-f.ensures,
  omega arith,
)

pub returns-in-65 : goal.returns-in-65
returns-in-65 t c =
    let here : ExprAt t c.args.script.now (length c.args.leasts.now) c.args.left c.args.at = expr-at _ _ _ _ _ c.decreases c.requires.loads in leaf_walked (here.now c.in-65.is) (now-noted _ _ c.requires.joined)

pub returns-in-66 : goal.returns-in-66
returns-in-66 t c =
    let here : ExprAt t c.args.script.now (length c.args.leasts.now) c.args.left c.args.at = expr-at _ _ _ _ _ c.decreases c.requires.loads in (here.str c.in-66.is).node c.type_expr-e.ensures (λ e h. str-noted _ _ e h)

pub returns-in-67 : goal.returns-in-67
returns-in-67 t c =
    let here : ExprAt t c.args.script.now (length c.args.leasts.now) c.args.left c.args.at = expr-at _ _ _ _ _ c.decreases c.requires.loads in (here.abs c.in-67.is).node c.type_expr-e-in-67.ensures (λ e h. abs-noted _ _ e h c.merged-after.ensures)

pub returns-in_default : goal.returns-in_default
returns-in_default t c =
    let here : ExprAt t c.args.script.now (length c.args.leasts.now) c.args.left c.args.at = expr-at _ _ _ _ _ c.decreases c.requires.loads in
    let n = sum-read here c.if-kind-lt65.false c.in_default.in_default-own.rest in
    n.parts.node c.type_expr-e-in_default.ensures c.type_expr-f.ensures
    (λ e f h k. sum-noted _ _ e f h k c.merged.ensures c.merged-after-in_default.ensures (n.means e f))

pub bounds-script-at : goal.bounds-script-at
bounds-script-at t c =
    let here : ExprAt t c.args.script.now (length c.args.leasts.now) c.args.left c.args.at = expr-at _ _ _ _ _ c.decreases c.requires.loads in here.inside

pub overflow_add-first : goal.overflow_add-first
overflow_add-first t c =
    let here : ExprAt t c.args.script.now (length c.args.leasts.now) c.args.left c.args.at = expr-at _ _ _ _ _ c.decreases c.requires.loads in omega (arith, here.inside)

pub overflow_sub-below : goal.overflow_sub-below
overflow_sub-below t c =
    let here : ExprAt t c.args.script.now (length c.args.leasts.now) c.args.left c.args.at = expr-at _ _ _ _ _ c.decreases c.requires.loads in here.pos
