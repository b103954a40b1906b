-- `store::bare::zero_item` meets its contract.
use Rattle.definitions.specs.Bytes.{filled}
use Rattle.store.proofs.bare.zero_item.Goals as goal

pub returns : goal.returns
unfolding filled
returns c = c.fresh_item.ensures
