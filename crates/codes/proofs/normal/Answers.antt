-- `codes::normal` meets its contract. Assumes nothing.
use Rattle.codes.proofs.CodeLaws.{normal-plain, normal-range}
use Rattle.codes.proofs.normal.Goals as goal

pub returns-then-code-lt8 : goal.returns-then-code-lt8
returns-then-code-lt8 c = normal-plain _ c.if-code-lt8.true c.datatype.ensures.0

pub returns : goal.returns
returns c = normal-range _ c.if-code-lt8.false c.datatype-2.ensures.0
