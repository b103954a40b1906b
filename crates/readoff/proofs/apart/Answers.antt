-- `readoff::apart` meets its contract: three roots. Assumes nothing.
use Rattle.readoff.proofs.ReadOffLaws.{apart-is}
use Rattle.readoff.proofs.apart.Goals as goal

pub returns : goal.returns
returns c = apart-is _ c.root-strings.ensures c.root-numbers.ensures c.root-times.ensures
