-- `values::number::sum` meets its contract, by the laws of SignedLaws.
use lib.IntN.{◌+ℤ◌}
use Rattle.values.proofs.SignedLaws.{op_fits, op-is, sum-small}
use Rattle.values.proofs.number.sum.Goals as goal

pub overflow_add-result : goal.overflow_add-result
overflow_add-result c = op_fits ◌+ℤ◌ c.args.a c.args.b c.ranges.a c.ranges.b (sum-small _ _ c.requires.t c.requires.t_2)

pub returns : goal.returns
returns c = op-is ◌+ℤ◌ c.args.a c.args.b c.ranges.a c.ranges.b (sum-small _ _ c.requires.t c.requires.t_2)
