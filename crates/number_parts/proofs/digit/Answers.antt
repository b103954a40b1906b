-- A digit is from 30 to 39.
use native.Mathlib.Omega.{arith}
use Rattle.laws.proofs.Numerals.{digit-range}
use Rattle.number_parts.proofs.digit.Goals as goal

pub overflow_sub-b : goal.overflow_sub-b
overflow_sub-b c = omega (arith, digit-range _ c.requires)

pub returns : goal.returns
returns c = (omega arith, omega (arith, digit-range _ c.requires))
