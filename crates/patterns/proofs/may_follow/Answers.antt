-- `patterns::may_follow` meets its contract.
use borrow.Author.Tests.{eq-eqb, ne_eqb}
use Rattle.patterns.specs.Fields.{may_follow}
use Rattle.patterns.proofs.may_follow.Goals as goal

pub returns-then-b-eq42 : goal.returns-then-b-eq42
unfolding may_follow
returns-then-b-eq42 c = rw (eq-eqb _ _ c.if-b-eq42.true)

pub returns-else-b-eq42 : goal.returns-else-b-eq42
unfolding may_follow
returns-else-b-eq42 c = rw (ne_eqb _ _ c.if-b-eq42.false) c.literal.ensures
