-- `values::number::difference` meets its contract, by the laws of SignedLaws.
use lib.IntN.{◌-ℤ◌}
use Rattle.values.proofs.SignedLaws.{op_fits, op-is, difference-small}
use Rattle.values.proofs.number.difference.Goals as goal

pub overflow_sub-result : goal.overflow_sub-result
overflow_sub-result c = op_fits ◌-ℤ◌ c.args.a c.args.b c.ranges.a c.ranges.b (difference-small _ _ c.requires.t c.requires.t_2)

pub returns : goal.returns
returns c = op-is ◌-ℤ◌ c.args.a c.args.b c.ranges.a c.ranges.b (difference-small _ _ c.requires.t c.requires.t_2)
