-- `readoff::reported` meets its contract: open, unbound or fixed. Assumes nothing.
use Rattle.readoff.proofs.ReadOffLaws.{reported-open, reported-unbound, reported-fixed}
use Rattle.readoff.proofs.reported.Goals as goal

pub returns-then-code-eq0 : goal.returns-then-code-eq0
returns-then-code-eq0 c = reported-open _ _ c.requires.2 c.requires.1 _ c.if-code-eq0.true c.best.ensures

pub returns-then-code : goal.returns-then-code
returns-then-code c = reported-unbound _ _ c.requires.2 c.requires.1 _ c.if-code.true

pub returns : goal.returns
returns c =
    reported-fixed _ _ c.requires.2 c.requires.1 _ c.if-code-eq0.false c.if-code.false c.normal.ensures
