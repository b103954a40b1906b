use native.Mathlib.Omega.{arith}
use Rattle.acts.proofs.StepLaws.{height-is, room, success-acts}
use Rattle.acts.proofs.drop_success.Goals as goal

pub pop-requires : goal.pop-requires
pop-requires c = record { height_nonzero = omega (arith, height-is c.requires.on_top); height_le_depth_limit = omega (arith, height-is c.requires.on_top, room c.requires.on_top) }

pub returns : goal.returns
returns c = λ x. success-acts x c.requires.at_value _ c.pop.ensures
