-- `with_type::leaves` meets its contract. Assumes nothing.
use Rattle.with_type.proofs.WithTypeLaws.{leaves-plain, leaves-range}
use Rattle.with_type.proofs.leaves.Goals as goal

pub returns-then-code-lt8 : goal.returns-then-code-lt8
returns-then-code-lt8 c = leaves-plain _ _ _ c.if-code-lt8.true

pub returns : goal.returns
returns c = leaves-range _ _ _ c.if-code-lt8.false
