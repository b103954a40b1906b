-- `typing::pairs::earlier` meets its contract: what stands already stands. Assumes nothing.
use Rattle.typing.proofs.PairLaws.{stands, first_said}
use Rattle.typing.proofs.pairs.earlier.Goals as goal

pub returns-then-here-eq-UNBOUND : goal.returns-then-here-eq-UNBOUND
returns-then-here-eq-UNBOUND c = first_said _ _ c.if-here-eq-UNBOUND.true

pub returns : goal.returns
returns c = stands _ _ c.if-here-eq-UNBOUND.false
