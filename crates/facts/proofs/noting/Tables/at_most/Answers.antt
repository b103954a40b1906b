-- `facts::noting::Tables::at_most` meets its contract: an integer is flagged. Assumes nothing.
use native.Mathlib.Omega.{arith}
use Rattle.facts.proofs.TableLaws.{family-small, at-most-low, at-most-other}
use Rattle.facts.proofs.noting.Tables.at_most.Goals as goal

pub merged-tables-requires : goal.merged-tables-requires
merged-tables-requires c = (c.requires.0, omega arith, family-small _ c.family-family.ensures)

pub returns-then-datatype-eq5 : goal.returns-then-datatype-eq5
returns-then-datatype-eq5 c = at-most-low _ _ _ c.family-family.ensures c.merged-tables.ensures c.if-datatype-eq5.true

pub returns : goal.returns
returns c = at-most-other _ _ _ c.family-family.ensures c.merged-tables.ensures c.if-datatype-eq5.false
