-- `values::number::scaled` meets its contract, by the laws of SignedLaws.
use native.Mathlib.Omega.{arith}
use lib.IntN.{pos, ◌*ℤ◌}
use Rattle.values.proofs.SignedLaws.{op_fits, op-is, scaled_small}
use Rattle.values.proofs.number.scaled.Goals as goal

pub overflow_mul-result : goal.overflow_mul-result
overflow_mul-result c = op_fits ◌*ℤ◌ c.args.n (pos 1000000) c.ranges.n (record { sfits = omega arith }) (scaled_small _ c.requires)

pub returns : goal.returns
returns c = op-is ◌*ℤ◌ c.args.n (pos 1000000) c.ranges.n (record { sfits = omega arith }) (scaled_small _ c.requires)
