-- `run_limits::bits` meets its contract.
use Rattle.run_limits.proofs.ClockLaws.{up_fits, up-signed, down_fits, down-cast, down-most, down-signed}
use Rattle.run_limits.proofs.bits.Goals as goal

pub overflow_cast-result : goal.overflow_cast-result
overflow_cast-result c = up_fits c.args.n c.ranges.n c.if-n-ge0.true

pub returns-then-n-ge0 : goal.returns-then-n-ge0
returns-then-n-ge0 c = up-signed c.args.n c.ranges.n c.if-n-ge0.true

pub overflow_sub-below : goal.overflow_sub-below
overflow_sub-below c = down_fits c.args.n c.ranges.n c.if-n-ge0.false

pub overflow_cast-result-2 : goal.overflow_cast-result-2
overflow_cast-result-2 c = down-cast c.args.n c.ranges.n c.if-n-ge0.false

pub overflow_sub-result : goal.overflow_sub-result
overflow_sub-result c = down-most c.args.n c.ranges.n c.if-n-ge0.false

pub returns : goal.returns
returns c = down-signed c.args.n c.ranges.n c.if-n-ge0.false
