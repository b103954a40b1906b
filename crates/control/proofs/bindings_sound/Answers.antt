-- `control::bindings_sound` meets its contract.
use native.Mathlib.Omega.{arith}
use mathlib.Core.Path.{refl, sym, ◌∙◌}
use Rattle.control.specs.Control.{binding_at, bindings_fit}
use Rattle.control.proofs.BindingLaws.{variables-next, variables-stop, variables-done}
use Rattle.control.proofs.bindings_sound.Goals as goal

pub loop-v-init : goal.loop-v-init
loop-v-init c = refl

pub returns-then-not-binding_sound : goal.returns-then-not-binding_sound
unfolding bindings_fit
returns-then-not-binding_sound c =
    variables-stop (binding_at c.args.leasts.now c.args.count c.args.bound c.args.numbers c.args.types) c.loop-v.v c.loop-v.invariant (omega arith)
    (sym c.binding_sound.ensures ∙ c.if-not-binding_sound.true)

pub loop-v-preserved : goal.loop-v-preserved
loop-v-preserved c =
    variables-next (binding_at c.args.leasts.now c.args.count c.args.bound c.args.numbers c.args.types) c.loop-v.v c.loop-v.invariant (omega arith)
    (sym c.binding_sound.ensures ∙ c.if-not-binding_sound.false)

pub returns : goal.returns
unfolding bindings_fit
returns c = variables-done (binding_at c.args.leasts.now c.args.count c.args.bound c.args.numbers c.args.types) c.loop-v.v c.loop-v.invariant (omega arith)
