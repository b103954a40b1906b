-- One of thirteen bytes.
use mathlib.Core.Path.{◌∙◌}
use Rattle.definitions.specs.Ascii.{ascii}
use Rattle.patterns.proofs.FieldLaws.{no-literal}
use Rattle.patterns.proofs.no_literal.Goals as goal

pub returns : goal.returns
unfolding ascii
returns c = c.contains.ensures.value ∙ no-literal c.args.b
