-- `fields::numbers::is_zero` meets its contract. What was looked at is zero, and so is the rest, where all is.
use Rattle.fields.proofs.NumberLaws.{zero-next, zero-end}
use Rattle.fields.proofs.numbers.is_zero.Goals as goal

pub loop-x-preserved : goal.loop-x-preserved
loop-x-preserved c = zero-next c.args.s.now c.loop-x.x-index c.loop-x.zero c.loop-x-test.true c.loop-x.invariant

pub returns : goal.returns
returns c = zero-end c.args.s.now c.loop-x.x-index c.loop-x.zero c.loop-x-test.false c.loop-x.invariant
