-- `facts::noting::Tables::at_least` meets its contract: a decimal is flagged. Assumes nothing.
use native.Mathlib.Omega.{arith}
use Rattle.facts.proofs.TableLaws.{family-small, property-joined, at-least-high, at-least-other}
use Rattle.facts.proofs.noting.Tables.at_least.Goals as goal

pub merged-tables-requires : goal.merged-tables-requires
merged-tables-requires c = (property-joined _ _ c.requires.0 c.requires.1 c.as_property.ensures, omega arith, family-small _ c.family-family.ensures)

pub returns-then-datatype-eq3 : goal.returns-then-datatype-eq3
returns-then-datatype-eq3 c = at-least-high _ _ _ c.family-family.ensures c.as_property.ensures c.merged-tables.ensures c.if-datatype-eq3.true

pub returns : goal.returns
returns c = at-least-other _ _ _ c.family-family.ensures c.as_property.ensures c.merged-tables.ensures c.if-datatype-eq3.false
