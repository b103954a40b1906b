-- The loop: `n` is what the digits up to `i` write, and within the limit.
use native.Mathlib.Omega.{arith}
use mathlib.Core.Path.{refl}
use Rattle.number_terms.specs.Amounts.{front}
use Rattle.number_terms.proofs.AmountLaws.{front-next, front-over, front-end}
use Rattle.number_terms.proofs.first_digits.Goals as goal

pub loop-i-init : goal.loop-i-init
unfolding front
loop-i-init c = (refl, omega arith)

pub returns-then-limit-n : goal.returns-then-limit-n
returns-then-limit-n c = front-over _ _ _ c.loop-i.invariant.0 _ _ _ c.digit_at.ensures.0 (omega arith) c.if-limit-n.true

pub loop-i-preserved : goal.loop-i-preserved
loop-i-preserved c = (front-next _ _ _ c.loop-i.invariant.0 c.digit_at.ensures.0, omega arith)

pub returns : goal.returns
returns c = front-end _ _ _ c.loop-i.invariant.0 _ _ (omega arith) (omega arith) (omega arith)

pub digit_at-requires : goal.digit_at-requires
digit_at-requires c = c.requires.digits
