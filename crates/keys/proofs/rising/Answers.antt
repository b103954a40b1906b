-- `keys::rising` meets its contract: each key is below its neighbour. Assumes nothing.
use Rattle.std.proofs.Common.{rules}
use Rattle.std.proofs.lemmas.Fn.{always_returns_same}
use mathlib.Core.Path.{◌≡◌}
use lib.Dec.{ltb}
use Rattle.keys.proofs.Rise.{rising_is}
use Rattle.keys.proofs.rising.Goals as goal

pub returns : goal.returns
returns c = rising_is _ _ (c.is_sorted_by.ensures.cases ltb (always_returns_same _ (λ a r. r ≡ ltb a.0.now a.1.0.now) _ (λ a r g k. search rules)))
