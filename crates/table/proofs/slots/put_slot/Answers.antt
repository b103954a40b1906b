-- `table::slots::put_slot` meets its contract.
use Rattle.table.proofs.TableLaws.{slot-stored}
use Rattle.table.proofs.slots.put_slot.Goals as goal

pub returns : goal.returns
returns c =
    slot-stored c.args.table.now c.args.slot.now c.copy_from_slice.new.self c.args.n c.copy_from_slice.ensures.after
