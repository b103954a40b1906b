-- By what its callees ensure.
use mathlib.Core.Path.{◌∙◌}
use Rattle.reports.proofs.NumberTold.{number-told}
use Rattle.handing_back.proofs.after_number.Goals as goal

pub returns : goal.returns
returns c = record { value = c.answer_number.ensures ∙ number-told _; record_after = c.write_term.ensures }
