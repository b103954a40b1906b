-- `typing::names::node_of` meets its contract. Assumes nothing.
use native.Mathlib.Omega.{arith}
use Rattle.facts.proofs.TableLaws.{variable-in}
use Rattle.facts.proofs.WalkLaws.{variable-node, known-node}
use Rattle.typing.proofs.names.node_of.Goals as goal

pub overflow_add-result : goal.overflow_add-result
overflow_add-result c = omega (arith, variable-in c.in-Variable.is c.requires)

pub returns-in-Variable : goal.returns-in-Variable
returns-in-Variable c = variable-node c.in-Variable.is c.requires

pub returns-in-Known : goal.returns-in-Known
returns-in-Known c = known-node _ c.in-Known.is c.own.ensures c.family.ensures
