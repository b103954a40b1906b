use native.Mathlib.Omega.{arith}
use mathlib.Core.Path.{refl}
use Rattle.store.specs.Canonical.{clean_bindings, number_of}
use Rattle.store.proofs.FillLaws.{made-variable, made-variables}
use Rattle.store.proofs.canonical.clean_bindings.Goals.{then-bound-v, else-bound-v}
use Rattle.store.proofs.canonical.clean_bindings.Goals as goal

pub loop-v-init : goal.loop-v-init
loop-v-init c = refl

pub loop-v-preserved : goal.loop-v-preserved
loop-v-preserved c =
    made-variable _ _ _ _ c.loop-v.invariant (omega arith) _
    (elim c.if-bound-v.branch [ then-bound-v w ↦ rw w.if-bound-v.true w.clean-is | else-bound-v w ↦ rw w.if-bound-v.false w.clean-is ])

pub returns : goal.returns
unfolding clean_bindings
returns c = made-variables (number_of c.args.bound c.args.bindings) 0 c.loop-v.v _ c.loop-v.invariant (omega arith) (omega arith)
