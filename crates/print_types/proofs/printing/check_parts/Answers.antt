-- The parts as they are cut are those of the definition.
use mathlib.Core.Path.{sym, ◌∙◌}
use borrow.Author.Rules.{rules}
use Rattle.card.proofs.Told.{told-refusal}
use Rattle.print_types.proofs.Printed.{parts-checked}
use Rattle.print_types.proofs.printing.check_parts.Goals as goal

pub returns-in_err-card : goal.returns-in_err-card
returns-in_err-card c =
    told-refusal _ _ (search rules) (sym (parts-checked _ c.terms_end-first.ensures.value c.schema_end-second.ensures.value c.least-a.ensures c.least-b.ensures) ∙ c.in_err-card.ensures)

pub returns : goal.returns
returns c =
    let x = c.in_ok-card.ensures in
    (x.0, sym (parts-checked _ c.terms_end-first.ensures.value c.schema_end-second.ensures.value c.least-a.ensures c.least-b.ensures) ∙ x.1, x.2.types)
