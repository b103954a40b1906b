-- `fields::numbers::to_signed` meets its contract.
use mathlib.Core.Path.{◌∙◌, ap}
use mir.Syntax.{w64}
use mir.Val.{to_z, of_z}
use mir.Facts.{of_z-to_z}
use Rattle.fields.proofs.NumberLaws.{signed_is}
use Rattle.fields.proofs.numbers.to_signed.Goals as goal

pub returns : goal.returns
returns c = ap (λ z. to_z w64 (of_z w64 z)) c.cast_signed.ensures ∙ ap (to_z w64) (of_z-to_z c.ranges.v) ∙ signed_is c.args.v c.ranges.v.fits
