-- `codes::below` meets its contract: the families tell, but for decimal and integer. Assumes nothing.
use mathlib.Core.Path.{sym, ap₂, ◌∙◌}
use mathlib.Core.Bool.{true, false}
use lib.Dec.{eqb}
use Rattle.codes.proofs.CodeLaws.{below-is}
use Rattle.codes.proofs.below.Goals as goal

pub returns-then-a-b : goal.returns-then-a-b
returns-then-a-b c = sym (below-is c.args.a c.args.b true c.if-a-b.true)

pub returns : goal.returns
returns c =
    ap₂ eqb c.family.ensures c.family-2.ensures
    ∙ sym (below-is c.args.a c.args.b false c.if-a-b.false)
