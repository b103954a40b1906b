-- `term_values::field_at` meets its contract, by the laws of SlotLaws.
use Rattle.term_values.proofs.SlotLaws.{copied}
use Rattle.term_values.proofs.field_at.Goals as goal

pub returns : goal.returns
returns g c = copied c.args.slot.now c.args.at _ c.copy_from_slice.new.self c.copy_from_slice.ensures.after
