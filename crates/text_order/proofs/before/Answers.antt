-- `text_order::before` meets its contract, by the laws of OrderLaws.
use mathlib.Core.Path.{◌∙◌}
use mathlib.Core.Logic.{⊎_elim}
use Rattle.text_order.proofs.OrderLaws.{order-start, order-out, order-end, order-first, order_other, order-more, left-byte, right-byte}
use Rattle.text_order.proofs.before.Goals as goal

pub loop-x-init : goal.loop-x-init
loop-x-init c = order-start _ (cc) (cc) c.requires.t c.requires.t_2 c.requires.a_len

pub returns-then-y-eq0 : goal.returns-then-y-eq0
returns-then-y-eq0 c = order-end _ c.loop-x.invariant c.in-Some.ensures.steps c.if-y-eq0.true

pub returns-then-x-eq0 : goal.returns-then-x-eq0
returns-then-x-eq0 c = order-first _ c.loop-x.invariant c.in-Some.ensures.steps c.if-y-eq0.false c.if-x-eq0.true

pub rank-p-requires-clause-t : goal.rank-p-requires-clause-t
rank-p-requires-clause-t c = left-byte _ c.loop-x.invariant c.in-Some.ensures.steps c.if-y-eq0.false c.if-x-eq0.false

pub rank-q-requires-clause-t : goal.rank-q-requires-clause-t
rank-q-requires-clause-t c = right-byte _ c.loop-x.invariant c.in-Some.ensures.steps c.if-y-eq0.false

pub returns-then-p-q : goal.returns-then-p-q
returns-then-p-q c = order_other _ c.loop-x.invariant c.in-Some.ensures.steps c.if-y-eq0.false c.if-x-eq0.false _ _ c.rank-p.ensures c.rank-q.ensures c.if-p-q.true

pub loop-x-preserved : goal.loop-x-preserved
loop-x-preserved c = order-more _ c.loop-x.invariant c.in-Some.ensures.steps c.if-y-eq0.false c.if-x-eq0.false _ _ c.rank-p.ensures c.rank-q.ensures c.if-p-q.false

pub returns : goal.returns
returns c = order-out _ c.loop-x.invariant (⊎_elim (λ p. p.1.0) (λ p. c.loop-x.invariant.lengths ∙ p.1.0) c.in-None.ensures.steps)
