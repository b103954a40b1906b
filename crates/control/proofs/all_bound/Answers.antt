-- `control::all_bound` meets its contract.
use native.Mathlib.Omega.{arith}
use mathlib.Core.Path.{refl}
use Rattle.control.specs.Control.{bound_at, all_bound}
use Rattle.control.proofs.BindingLaws.{variables-next, variables-stop, variables-done}
use Rattle.control.proofs.all_bound.Goals as goal

pub loop-v-init : goal.loop-v-init
loop-v-init c = refl

pub returns-then-not-good : goal.returns-then-not-good
unfolding all_bound
returns-then-not-good c =
    variables-stop (bound_at c.args.free c.args.bound) c.loop-v.v c.loop-v.invariant (omega arith) c.if-not-good.true

pub loop-v-preserved : goal.loop-v-preserved
loop-v-preserved c =
    variables-next (bound_at c.args.free c.args.bound) c.loop-v.v c.loop-v.invariant (omega arith) c.if-not-good.false

pub returns : goal.returns
unfolding all_bound
returns c = variables-done (bound_at c.args.free c.args.bound) c.loop-v.v c.loop-v.invariant (omega arith)
