-- `readoff::settled` meets its contract: two roots. Assumes nothing.
use Rattle.readoff.proofs.ReadOffLaws.{settled_is}
use Rattle.readoff.proofs.settled.Goals as goal

pub returns : goal.returns
returns c = settled_is _ _ c.root-own.ensures c.root-ranged.ensures
