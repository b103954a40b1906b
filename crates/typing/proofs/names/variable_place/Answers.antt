-- `typing::names::variable_place` meets its contract: open, unbound or fixed. Assumes nothing.
use Rattle.facts.proofs.WalkLaws.{open-placed, unbound-placed, fixed-placed}
use Rattle.typing.proofs.names.variable_place.Goals as goal

pub returns-then-code-eq0 : goal.returns-then-code-eq0
returns-then-code-eq0 c = open-placed _ _ _ c.requires.0 c.requires.1 c.if-code-eq0.true

pub returns-then-code : goal.returns-then-code
returns-then-code c = unbound-placed _ _ _ c.requires.0 c.requires.1 c.if-code.true

pub returns : goal.returns
returns c = fixed-placed _ _ _ c.requires.0 c.requires.1 c.if-code-eq0.false c.if-code.false
