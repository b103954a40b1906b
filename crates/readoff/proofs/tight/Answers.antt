-- `readoff::tight` meets its contract. Assumes nothing.
use Rattle.readoff.proofs.ReadOffLaws.{tight-apart, tight-edge}
use Rattle.readoff.proofs.tight.Goals as goal

pub returns-then-not-t-at : goal.returns-then-not-t-at
returns-then-not-t-at c = tight-apart _ _ _ c.if-not-t-at.true

pub returns : goal.returns
returns c = tight-edge _ _ _ c.if-not-t-at.false c.root-numbers.ensures
