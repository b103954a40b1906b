-- Nothing, or digits after the point.
use native.Mathlib.Omega.{arith}
use Rattle.number_parts.proofs.PartLaws.{no_fraction, point-inside, fraction-after}
use Rattle.number_parts.proofs.read_fraction.Goals as goal

pub returns-then-byte_at-ne46 : goal.returns-then-byte_at-ne46
returns-then-byte_at-ne46 c = no_fraction _ _ _ c.byte_at.ensures c.if-byte_at-ne46.true

pub overflow_add-at : goal.overflow_add-at
overflow_add-at c = omega (arith, point-inside c.args.s.now c.args.at _ c.byte_at.ensures c.if-byte_at-ne46.false)

pub returns : goal.returns
returns c = fraction-after _ _ _ c.byte_at.ensures c.if-byte_at-ne46.false c.read_digits.ensures
