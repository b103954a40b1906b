-- `values::number::is_same` meets its contract, by the laws of SignedLaws.
use Rattle.values.proofs.SignedLaws.{same-is}
use Rattle.values.proofs.number.is_same.Goals as goal

pub returns : goal.returns
returns c = same-is c.args.a c.args.b c.ranges.a c.ranges.b
