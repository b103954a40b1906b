-- `values::arithmetic::numeric` meets its contract, by the laws of ArithmeticLaws.
use Rattle.values.proofs.ArithmeticLaws.{numeric-yes, numeric-no}
use Rattle.values.proofs.arithmetic.numeric.Goals as goal

pub returns-then-present : goal.returns-then-present
returns-then-present c = numeric-yes c.args.kind c.args.n c.args.present c.ranges.n c.if-present.true

pub returns-else-present : goal.returns-else-present
returns-else-present c = numeric-no c.args.kind c.args.n c.args.present c.ranges.n c.if-present.false
