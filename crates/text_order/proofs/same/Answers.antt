-- `text_order::same` meets its contract, by the laws of OrderLaws.
use mathlib.Core.Path.{◌∙◌}
use mathlib.Core.Logic.{⊎_elim}
use Rattle.text_order.proofs.OrderLaws.{same-start, same-out, same-end, same-more, same-other}
use Rattle.text_order.proofs.same.Goals as goal

pub loop-x-init : goal.loop-x-init
loop-x-init c = same-start (cc) (cc) c.requires

pub returns-then-x-y : goal.returns-then-x-y
returns-then-x-y c = same-other c.loop-x.invariant c.in-Some.ensures.steps c.if-x-y.true

pub returns-then-x-eq0 : goal.returns-then-x-eq0
returns-then-x-eq0 c = same-end c.loop-x.invariant c.in-Some.ensures.steps c.if-x-y.false c.if-x-eq0.true

pub loop-x-preserved : goal.loop-x-preserved
loop-x-preserved c = same-more c.loop-x.invariant c.in-Some.ensures.steps c.if-x-y.false c.if-x-eq0.false

pub returns : goal.returns
returns c = same-out c.loop-x.invariant (⊎_elim (λ p. p.1.0) (λ p. c.loop-x.invariant.lengths ∙ p.1.0) c.in-None.ensures.steps)
