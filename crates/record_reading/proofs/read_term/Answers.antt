-- `record_reading::read_term` meets its contract.
use mathlib.Core.Path.{ap, ◌∙◌}
use Rattle.laws.specs.ReadAnswers.{next_of}
use Rattle.record_reading.proofs.ReadLaws.{term-out, term_is}
use Rattle.record_reading.proofs.read_term.Goals as goal

pub returns-then-s-at : goal.returns-then-s-at
returns-then-s-at c = term-out _ _ c.if-s-at.true

pub returns : goal.returns
returns c = c.read_body.ensures ∙ ap next_of (term_is _ _)
