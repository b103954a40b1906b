use native.Mathlib.Omega.{arith}
use mathlib.Core.Path.{refl, sym, ap, ◌∙◌}
use mathlib.Core.Bool.{cond}
use lib.ListN.{get_or}
use Rattle.scan.specs.Codes.{free_code}
use Rattle.answers.specs.Answers.{known_code, known_of}
use Rattle.store.proofs.FillLaws.{made-variable, made-variables}
use Rattle.answers.proofs.known_of.Goals.{then-bound-v, else-bound-v}
use Rattle.answers.proofs.known_of.Goals as goal

pub loop-v-init : goal.loop-v-init
loop-v-init c = refl

pub loop-v-preserved : goal.loop-v-preserved
loop-v-preserved c =
    made-variable _ _ _ _ c.loop-v.invariant c.loop-v-test.true _
    (elim c.if-bound-v.branch [
      | then-bound-v w ↦ w.known-is ∙ sym (ap (λ b. cond b (get_or c.args.bindings c.loop-v.v 0) free_code) w.if-bound-v.true)
      | else-bound-v w ↦ w.known-is ∙ sym (ap (λ b. cond b (get_or c.args.bindings c.loop-v.v 0) free_code) w.if-bound-v.false)
    ])

pub returns : goal.returns
unfolding known_of
returns c =
    made-variables (known_code c.args.bound c.args.bindings) free_code c.loop-v.v _ c.loop-v.invariant (omega (arith, c.loop-v.auto.v-end)) (omega (arith, c.loop-v-test.false))
