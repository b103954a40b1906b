-- `facts::noting::Tables::impossible` meets its contract. Assumes nothing.
use Rattle.facts.specs.Tables.{impossible}
use Rattle.facts.proofs.noting.Tables.impossible.Goals as goal

pub returns : goal.returns
unfolding impossible
returns c = c.merged.ensures
