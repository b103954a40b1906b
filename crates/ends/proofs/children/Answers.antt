-- Below the digits, above them, or one of them.
use native.Mathlib.Omega.{arith}
use Rattle.definitions.specs.Ascii.{ascii}
use Rattle.ends.proofs.ExtentLaws.{none-below, none-above, digit-children, is_digit_lem}
use Rattle.ends.proofs.children.Goals as goal

pub overflow_sub-result-in-64-to-101 : goal.overflow_sub-result-in-64-to-101
unfolding ascii
overflow_sub-result-in-64-to-101 c = (is_digit_lem c.args.kind (omega arith) (omega arith)).0

pub returns-in-64-to-101 : goal.returns-in-64-to-101
unfolding ascii
returns-in-64-to-101 c = digit-children c.args.kind (omega arith) (omega arith)

pub returns-in_default : goal.returns-in_default
returns-in_default c = none-below c.args.kind (omega arith)

pub returns-in_default-2 : goal.returns-in_default-2
returns-in_default-2 c = none-above c.args.kind (omega arith) (omega arith)
