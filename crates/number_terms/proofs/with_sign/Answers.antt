-- Zero, a number below it, or one above.
use Rattle.number_terms.proofs.TermLaws.{zero-signed, plus-signed, minus-signed}
use Rattle.number_terms.proofs.with_sign.Goals as goal

pub returns-then-n-eq0 : goal.returns-then-n-eq0
returns-then-n-eq0 c = zero-signed c.if-n-eq0.true _

pub returns-then-minus : goal.returns-then-minus
returns-then-minus c = minus-signed _ c.requires c.if-n-eq0.false c.if-minus.true

pub returns : goal.returns
returns c = plus-signed _ c.requires c.if-minus.false
