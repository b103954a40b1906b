-- `cases::made::decimal` meets its contract, by the laws of MadeLaws.
use Rattle.cases.proofs.MadeLaws.{decimal-made}
use Rattle.cases.proofs.made.decimal.Goals as goal

pub returns : goal.returns
returns c = decimal-made c.args.n c.ranges.n c.limited.result c.limited.ensures
