-- `strings::text::sign` meets its contract, by the laws of TextLaws.
use Rattle.strings.proofs.TextLaws.{sign-minus, sign-none}
use Rattle.definitions.specs.Bytes.{filled}
use Rattle.strings.proofs.text.sign.Goals as goal

pub returns-then-n-lt0 : goal.returns-then-n-lt0
unfolding filled
returns-then-n-lt0 c = sign-minus c.args.n c.push.result c.ranges.n c.if-n-lt0.true c.push.ensures

pub returns-else-n-lt0 : goal.returns-else-n-lt0
unfolding filled
returns-else-n-lt0 c = sign-none c.args.n c.ranges.n c.if-n-lt0.false
