-- `query::names::variable_code` meets its contract: one law for each way through. Assumes nothing.
use Rattle.query.proofs.CodeLaws.{code-sought, code-known, code_free}
use Rattle.query.proofs.names.variable_code.Goals as goal

pub returns-then-w-v : goal.returns-then-w-v
returns-then-w-v c = code-sought _ _ _ c.if-w-v.true

pub returns-then-code-lt-SOUGHT : goal.returns-then-code-lt-SOUGHT
returns-then-code-lt-SOUGHT c = code-known _ _ _ c.if-w-v.false c.requires c.if-code-lt-SOUGHT.true

pub returns : goal.returns
returns c = code_free _ _ _ c.if-w-v.false c.requires c.if-code-lt-SOUGHT.false
