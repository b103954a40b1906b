-- `facts::noting::Tables::edge` meets its contract. Assumes nothing.
use native.Mathlib.Omega.{arith}
use Rattle.facts.proofs.TableLaws.{property-joined, edge-is}
use Rattle.facts.proofs.noting.Tables.edge.Goals as goal

pub merged-tables-requires : goal.merged-tables-requires
merged-tables-requires c = (property-joined _ _ c.requires.0 c.requires.1 c.as_property.ensures, omega arith, omega arith)

pub returns : goal.returns
returns c = edge-is _ _ _ c.as_property.ensures c.merged-tables.ensures
