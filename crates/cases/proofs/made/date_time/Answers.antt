-- `cases::made::date_time` meets its contract, by the laws of MadeLaws.
use Rattle.definitions.specs.Terms.{within_limits}
use Rattle.cases.proofs.MadeLaws.{time-good, time-made, time-other}
use Rattle.cases.proofs.made.date_time.Goals as goal

pub now_value-requires : goal.now_value-requires
unfolding within_limits
now_value-requires c = time-good c.args.n c.ranges.n c.within.result c.within.ensures c.if-within.true

pub returns-then-within : goal.returns-then-within
unfolding within_limits
returns-then-within c =
    time-made c.args.n c.ranges.n c.within.result c.within.ensures c.now_value.result c.if-within.true c.now_value.ensures

pub now_value-requires-else-within : goal.now_value-requires-else-within
unfolding within_limits
now_value-requires-else-within c = tt

pub returns-else-within : goal.returns-else-within
unfolding within_limits
returns-else-within c =
    time-other c.args.n c.ranges.n c.within.result c.within.ensures c.now_value-else-within.result c.if-within.false c.now_value-else-within.ensures
