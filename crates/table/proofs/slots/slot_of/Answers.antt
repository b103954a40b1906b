-- `table::slots::slot_of` meets its contract.
use Rattle.table.proofs.TableLaws.{slot-made}
use Rattle.table.proofs.slots.slot_of.Goals as goal

pub returns : goal.returns
returns c = slot-made _ _ _ c.copy_from_slice.ensures.after
