-- One digit, or two.
use native.Mathlib.Omega.{arith}
use mathlib.Core.Path.{◌∙◌}
use Rattle.number_parts.proofs.PartLaws.{digit-in, one-digit, two_digits}
use Rattle.number_parts.proofs.small.Goals as goal

pub digit-first-requires : goal.digit-first-requires
digit-first-requires c = digit-in c.args.digits.now 0 c.requires.digits.all (omega arith)

pub returns-then-digits-eq1 : goal.returns-then-digits-eq1
returns-then-digits-eq1 c = (c.digit-first.ensures.0 ∙ one-digit _ c.if-digits-eq1.true, omega (arith, c.digit-first.ensures))

pub digit-requires : goal.digit-requires
digit-requires c = digit-in c.args.digits.now 1 c.requires.digits.all (omega (arith, c.if-digits-eq1.false))

pub returns : goal.returns
returns c =
    let n = two_digits c.args.digits.now c.requires.digits_nonzero.0 c.if-digits-eq1.false c.requires.digits_nonzero.1 in
    (omega (arith, c.digit-first.ensures, c.digit.ensures), omega (arith, c.digit-first.ensures, c.digit.ensures))
