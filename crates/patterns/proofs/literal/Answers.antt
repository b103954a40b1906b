-- `patterns::literal` meets its contract.
use Rattle.patterns.proofs.FieldLaws.{literal-is}
use Rattle.patterns.proofs.literal.Goals as goal

pub returns : goal.returns
returns c = literal-is _ c.no_literal.ensures
