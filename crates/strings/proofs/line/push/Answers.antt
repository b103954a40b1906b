-- `strings::line::push` meets its contract, by the laws of LineLaws.
use Rattle.strings.proofs.LineLaws.{puts-byte}
use Rattle.strings.proofs.line.push.Goals as goal

pub returns : goal.returns
returns c = puts-byte c.args.line c.args.b c.requires
