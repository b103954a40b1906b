-- `readoff::closed` meets its contract: an open variable has the code 0. Assumes nothing.
use Rattle.readoff.proofs.ReadOffLaws.{closed-written, closed-open}
use Rattle.readoff.proofs.closed.Goals as goal

pub returns-then-written-x-ne0 : goal.returns-then-written-x-ne0
returns-then-written-x-ne0 c = closed-written _ _ c.requires.2 c.requires.1 _ c.if-written-x-ne0.true

pub returns : goal.returns
returns c = closed-open _ _ c.requires.2 c.requires.1 c.if-written-x-ne0.false c.settled.ensures
