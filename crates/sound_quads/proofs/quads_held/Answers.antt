-- `sound_quads::quads_held` meets its contract. Each return is one law.
use native.Mathlib.Omega.{arith}
use Rattle.sound_quads.proofs.QuadLaws.{too_many, held-is}
use Rattle.sound_quads.proofs.quads_held.Goals as goal

pub returns-then-n-gt-QUAD_LIMIT : goal.returns-then-n-gt-QUAD_LIMIT
returns-then-n-gt-QUAD_LIMIT c = too_many _ _ c.if-n-gt-QUAD_LIMIT.true

pub returns : goal.returns
returns c = held-is _ _ (omega arith) c.is_zero.ensures
