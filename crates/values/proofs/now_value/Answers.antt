-- `values::now_value` meets its contract, by the laws of ArithmeticLaws.
use Rattle.values.proofs.ArithmeticLaws.{time-holds}
use Rattle.values.proofs.now_value.Goals as goal

pub returns : goal.returns
returns c = time-holds c.args.seconds c.requires
