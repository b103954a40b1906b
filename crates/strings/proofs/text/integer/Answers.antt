-- `strings::text::integer` meets its contract, by the laws of TextLaws.
use Rattle.strings.proofs.TextLaws.{integer-written}
use Rattle.strings.proofs.text.integer.Goals as goal

pub returns : goal.returns
returns c =
    integer-written c.args.n c.requires c.sign-start.result c.sign-start.ensures.0 c.unsigned_abs-far.result c.unsigned_abs-far.ensures.value c.natural.result c.natural.ensures
