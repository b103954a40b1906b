-- `cases::made::integer` meets its contract, by the laws of MadeLaws.
use Rattle.cases.proofs.MadeLaws.{integer-made}
use Rattle.cases.proofs.made.integer.Goals as goal

pub returns : goal.returns
returns c = integer-made c.args.n c.ranges.n c.limited.result c.limited.ensures
