-- `codes::own` meets its contract. Assumes nothing.
use Rattle.codes.proofs.CodeLaws.{own-plain, own_range}
use Rattle.codes.proofs.own.Goals as goal

pub returns-then-code-lt8 : goal.returns-then-code-lt8
returns-then-code-lt8 c = own-plain c.args.code c.if-code-lt8.true

pub returns : goal.returns
returns c = own_range c.args.code c.if-code-lt8.false
