-- `pack` meets its contract, by what a key is. Assumes nothing.
use borrow.Author.Rules.{rules}
use Rattle.keys.specs.Keys.{key_of}
use Rattle.keys.proofs.pack.Goals as goal

pub returns : goal.returns
unfolding key_of
returns c = search rules
