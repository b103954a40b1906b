-- `matching::range::goes_on` meets its contract, by the laws of RangeLaws.
use native.Mathlib.Omega.{arith}
use mathlib.Core.Path.{◌∙◌}
use borrow.Author.Tests.{eq-eqb, ne_eqb}
use Rattle.matching.proofs.RangeLaws.{along-start, along-out, along-end, along-other, along-more}
use Rattle.matching.proofs.range.goes_on.Goals as goal

pub loop-i-init : goal.loop-i-init
loop-i-init c = (along-start _ _, omega arith)

pub returns-then-b-eq0 : goal.returns-then-b-eq0
returns-then-b-eq0 c = λ h. eq-eqb _ 0 c.if-b-eq0.true ∙ rw (eq-eqb _ 0 c.if-b-eq0.true) at (along-end _ _ _ (c.loop-i.invariant.0 h) (omega arith) (omega arith) _ c.ends.ensures c.if-ends.true)

pub returns-else-b-eq0 : goal.returns-else-b-eq0
returns-else-b-eq0 c = λ h. rw (ne_eqb _ 0 c.if-b-eq0.false) at (along-end _ _ _ (c.loop-i.invariant.0 h) (omega arith) (omega arith) _ c.ends.ensures c.if-ends.true)

pub returns-then-range-i : goal.returns-then-range-i
returns-then-range-i c =
    λ h. along-other _ _ _ (c.loop-i.invariant.0 h) (omega arith) (omega arith) _ c.ends.ensures c.if-ends.false c.if-range-i.true

pub loop-i-preserved : goal.loop-i-preserved
loop-i-preserved c =
    (λ h. along-more _ _ _ (c.loop-i.invariant.0 h) (omega arith) (omega arith) _ c.ends.ensures c.if-ends.false c.if-range-i.false, omega arith)

pub returns : goal.returns
returns c = λ h. along-out _ _ _ (c.loop-i.invariant.0 h) (omega arith) (omega arith)
