-- `facts::noting::Tables::fresh` meets its contract: each node alone, and no flag. Assumes nothing.
use Rattle.facts.specs.Tables.{fresh}
use Rattle.facts.proofs.noting.Tables.fresh.Goals as goal

pub returns : goal.returns
unfolding fresh
returns c = λ i. record { families = record { parents = c.fresh-families.ensures i }; low = fresh.low; high = fresh.high; property = fresh.property; edges = fresh.edges }
