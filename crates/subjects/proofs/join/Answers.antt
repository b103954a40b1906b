-- `subjects::join` meets its contract.
use Rattle.subjects.proofs.NotedLaws.{join-none, join-held, join-code, join_apart}
use Rattle.subjects.proofs.join.Goals as goal

pub returns-then-held-eq0 : goal.returns-then-held-eq0
returns-then-held-eq0 c = λ o d e f. join-none _ _ o d e f c.if-held-eq0.true

pub returns-then-below : goal.returns-then-below
returns-then-below c = λ o d e f. join-held _ _ o d e f c.if-held-eq0.false c.below.ensures c.if-below.true

pub returns-then-below-2 : goal.returns-then-below-2
returns-then-below-2 c =
    λ o d e f. join-code _ _ o d e f c.if-held-eq0.false c.below.ensures c.if-below.false c.below-2.ensures c.if-below-2.true

pub returns : goal.returns
returns c =
    λ o d e f. join_apart _ _ o d e f c.if-held-eq0.false c.below.ensures c.if-below.false c.below-2.ensures c.if-below-2.false
