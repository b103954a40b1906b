-- The loop: the end is still to be found from `at` on.
use Prim.Native.Nat.{◌-◌}
use native.Mathlib.Omega.{arith}
use mathlib.Core.Path.{refl, sym, ◌∙◌}
use Rattle.definitions.specs.Terms.{of_term_kind}
use Rattle.definitions.specs.Bytes.{byte}
use Rattle.definitions.specs.Printer.{terms_end}
use Rattle.joined_input.proofs.EndLaws.{ends-start, ends-here, ends-out, ends_next, width-none, width_some, width_few}
use Rattle.joined_input.proofs.terms_end.Goals as goal

pub loop-at-init : goal.loop-at-init
unfolding terms_end
loop-at-init c = (omega arith, ends-start _ _ 0)

pub returns-then-width-eq0 : goal.returns-then-width-eq0
returns-then-width-eq0 c = record { value = ends-here _ _ (width-none _ (sym c.body_width-width.ensures ∙ c.if-width-eq0.true)) c.loop-at.invariant.1; upper_bound = omega arith }

pub overflow_add-next-in-loop-at : goal.overflow_add-next-in-loop-at
overflow_add-next-in-loop-at c =
    omega (arith, width_few (of_term_kind (byte c.args.s.now c.loop-at.«at»)), c.body_width-width.ensures)

pub loop-at-preserved : goal.loop-at-preserved
loop-at-preserved c = (
  omega (arith, width_few (of_term_kind (byte c.args.s.now c.loop-at.«at»)), c.body_width-width.ensures),
  ends_next _ _
      (width_some _ (λ z. c.if-width-eq0.false (c.body_width-width.ensures ∙ z))) (omega arith) c.loop-at.invariant.1 (omega (arith, c.body_width-width.ensures)),
)

pub returns : goal.returns
returns c = record { value = ends-out _ _ refl (omega arith) c.loop-at.invariant.1; upper_bound = omega arith }
