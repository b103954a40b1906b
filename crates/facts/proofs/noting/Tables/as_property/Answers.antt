-- `facts::noting::Tables::as_property` meets its contract. Assumes nothing.
use Rattle.facts.proofs.TableLaws.{property-is}
use Rattle.facts.proofs.noting.Tables.as_property.Goals as goal

pub returns : goal.returns
returns c = property-is _ _ c.merged-tables.ensures
