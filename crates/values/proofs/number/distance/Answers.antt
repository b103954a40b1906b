-- `values::number::distance` meets its contract, by the laws of SignedLaws.
use Rattle.values.proofs.SignedLaws.{negated-fits}
use Rattle.values.proofs.number.distance.Goals as goal

pub abs-requires : goal.abs-requires
abs-requires c = negated-fits c.args.n c.ranges.n c.requires
