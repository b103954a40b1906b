-- `strings::text::since_start` meets its contract, by the laws of ArithmeticLaws and TextLaws.
use Rattle.strings.proofs.TextLaws.{since-fits, since-is}
use Rattle.values.proofs.ArithmeticLaws.{plain, date_time-decimal}
use Rattle.definitions.specs.Terms.{within_limits}
use Rattle.strings.proofs.text.since_start.Goals as goal

pub sum-requires : goal.sum-requires
unfolding within_limits
sum-requires c = record { t = rw (plain c.args.n (date_time-decimal c.args.n c.requires)) (date_time-decimal c.args.n c.requires); t_2 = tt }

pub overflow_cast-result : goal.overflow_cast-result
overflow_cast-result c = since-fits c.args.n c.requires c.sum.result (record { sfits = c.sum.type_inv }) c.sum.ensures

pub returns : goal.returns
returns c = since-is c.args.n c.requires c.sum.result (record { sfits = c.sum.type_inv }) c.sum.ensures
