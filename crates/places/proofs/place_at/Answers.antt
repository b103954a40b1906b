-- `places::place_at` meets its contract.
use native.Mathlib.Omega.{arith}
use Rattle.walks.proofs.RootLaws.{whole-loads}
use Rattle.places.proofs.PlaceLaws.{place_is}
use Rattle.places.proofs.place_at.Goals as goal

pub place_from-requires : goal.place_from-requires
place_from-requires c = record { loads = whole-loads _ _ c.requires; left_bound = omega arith }

pub returns : goal.returns
returns c = place_is _ _ c.requires _ c.place_from.ensures
