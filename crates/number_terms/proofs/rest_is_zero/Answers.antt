-- The loop: the digits up to `i` are 0, and the rest decides.
use native.Mathlib.Omega.{arith}
use mathlib.Core.Path.{sym, ◌∙◌}
use mathlib.Core.List.{◌++◌}
use lib.ListN.{length-append}
use Rattle.definitions.specs.Terms.{Text}
use Rattle.number_terms.proofs.AmountLaws.{rest-next, rest-stop, rest_end}
use Rattle.number_terms.proofs.rest_is_zero.Goals as goal

pub overflow_add-count : goal.overflow_add-count
overflow_add-count c = omega (arith, c.requires.few, length-append c.args.whole.now c.args.fraction.now)

pub returns-then-digit_at-ne0 : goal.returns-then-digit_at-ne0
returns-then-digit_at-ne0 c =
    let digits : Text = c.args.whole.now ++ c.args.fraction.now in
    rest-stop digits _ _ (omega (arith, length-append c.args.whole.now c.args.fraction.now)) c.digit_at.ensures.0 c.if-digit_at-ne0.true ∙ sym c.loop-i.invariant

pub loop-i-preserved : goal.loop-i-preserved
loop-i-preserved c =
    let digits : Text = c.args.whole.now ++ c.args.fraction.now in
    c.loop-i.invariant ∙ rest-next digits _ _ (omega (arith, length-append c.args.whole.now c.args.fraction.now)) c.digit_at.ensures.0 c.requires.all c.if-digit_at-ne0.false

pub returns : goal.returns
returns c =
    let digits : Text = c.args.whole.now ++ c.args.fraction.now in
    rest_end digits c.loop-i.i (omega (arith, length-append c.args.whole.now c.args.fraction.now)) ∙ sym c.loop-i.invariant

pub digit_at-requires : goal.digit_at-requires
digit_at-requires c = c.requires
