-- `property_of` meets its contract, by what a key is. Assumes nothing.
use borrow.Author.Rules.{rules}
use Rattle.keys.specs.Keys.{quad_of}
use Rattle.keys.proofs.property_of.Goals as goal

pub returns : goal.returns
unfolding quad_of
returns c = search rules
