-- `search::types::is_under` meets its contract: it is the test written out. Assumes nothing.
use mathlib.Core.Path.{refl}
use Rattle.search.specs.Finding.{is_under}
use Rattle.search.proofs.types.is_under.Goals as goal

pub returns : goal.returns
unfolding is_under
returns c = refl
