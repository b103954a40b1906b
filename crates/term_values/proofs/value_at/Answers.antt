-- `term_values::value_at` meets its contract, by the laws of TestLaws.
use mathlib.Core.Path.{ap, ◌∙◌}
use Rattle.definitions.specs.Saved.{slot_term}
use Rattle.fields.proofs.PartLaws.{some-part, part-long}
use Rattle.definitions.specs.Limits.{slot_width}
use Rattle.term_values.proofs.value_at.Goals as goal

pub in_slot-requires : goal.in_slot-requires
in_slot-requires c = part-long c.args.table.now c.args.at slot_width c.requires

pub returns : goal.returns
returns c = λ t e. c.in_slot.ensures t (ap slot_term (some-part c.args.table.now c.args.at slot_width) ∙ e)
