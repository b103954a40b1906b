-- In the first text, in the second, or past both.
use Prim.Native.Nat.{◌-◌}
use native.Mathlib.Omega.{arith}
use mathlib.Core.Path.{ap, ◌∙◌}
use Rattle.number_terms.proofs.AmountLaws.{first-is, first-digit, second_is, second-digit, past-digits}
use Rattle.number_terms.proofs.digit_at.Goals as goal

pub digit-requires : goal.digit-requires
digit-requires c = first-digit c.args.whole.now c.args.fraction.now _ c.requires.all c.if-i-whole.true

pub returns-then-i-whole : goal.returns-then-i-whole
returns-then-i-whole c =
    (c.digit.ensures.0 ∙ ap (λ b. b - 0x30) (first-is c.args.whole.now c.args.fraction.now c.args.i c.if-i-whole.true), c.digit.ensures.1)

pub digit-requires-then-j-fraction : goal.digit-requires-then-j-fraction
digit-requires-then-j-fraction c =
    second-digit c.args.whole.now c.args.fraction.now c.args.i c.requires.all c.if-j-fraction.true

pub returns-then-j-fraction : goal.returns-then-j-fraction
returns-then-j-fraction c =
    (c.digit-then-j-fraction.ensures.0 ∙ ap (λ b. b - 0x30) (second_is c.args.whole.now c.args.fraction.now c.args.i c.if-i-whole.false c.if-j-fraction.true), c.digit-then-j-fraction.ensures.1)

pub returns : goal.returns
returns c = (past-digits c.args.whole.now c.args.fraction.now c.args.i c.if-j-fraction.false c.if-i-whole.false, omega arith)
