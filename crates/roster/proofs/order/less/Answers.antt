-- `roster::order::less` meets its contract.
use Rattle.definitions.specs.Alphabet.{built_in}
use Rattle.roster.proofs.order.less.Goals as goal

pub returns : goal.returns
unfolding built_in
returns c = c.less.ensures
