-- `values::arithmetic::limited` meets its contract, by the laws of ArithmeticLaws.
use mathlib.Core.Path.{◌∙◌}
use Rattle.values.proofs.ArithmeticLaws.{limited-integer, limited-decimal}
use Rattle.definitions.specs.Terms.{within_limits}
use Rattle.values.proofs.arithmetic.limited.Goals.{then-kind-eq-INTEGER, else-kind-eq-INTEGER}
use Rattle.values.proofs.arithmetic.limited.Goals as goal

pub returns : goal.returns
unfolding within_limits
returns c = elim c.if-kind-eq-INTEGER.branch [
  | then-kind-eq-INTEGER w ↦ limited-integer c.args.kind c.args.n _ c.ranges.n c.numeric.result c.numeric.ensures w.if-kind-eq-INTEGER.true (w.fits-is ∙ w.within-fits.ensures)
  | else-kind-eq-INTEGER w ↦ limited-decimal c.args.kind c.args.n _ c.ranges.n c.numeric.result c.numeric.ensures w.if-kind-eq-INTEGER.false (w.fits-is ∙ w.within-fits-else-kind-eq-INTEGER.ensures)
]
