use mathlib.Core.Path.{◌∙◌}
use Rattle.answers.proofs.AnswerLaws.{short-of}
use Rattle.answers.proofs.short_number.Goals as goal

pub returns : goal.returns
returns c = c.unwrap_or.ensures ∙ short-of _ _ c.try_from.ensures
