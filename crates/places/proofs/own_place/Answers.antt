-- `places::own_place` meets its contract.
use borrow.Author.Tests.{eq-eqb, ne_eqb}
use Rattle.places.proofs.own_place.Goals as goal

pub returns-then-wanted-at : goal.returns-then-wanted-at
returns-then-wanted-at c = rw (eq-eqb _ _ c.if-wanted-at.true)

pub returns-else-wanted-at : goal.returns-else-wanted-at
returns-else-wanted-at c = rw (ne_eqb _ _ c.if-wanted-at.false)
