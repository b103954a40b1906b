-- `table::slots::slot_ok` meets its contract.
use Rattle.table.proofs.TableLaws.{slot-bad, slot-fits, slot_is}
use Rattle.table.proofs.slots.slot_ok.Goals as goal

pub returns-in-None : goal.returns-in-None
returns-in-None c = slot-bad _ c.read_term.ensures c.in-None.is

pub slice_bounds-is_zero-count : goal.slice_bounds-is_zero-count
slice_bounds-is_zero-count c = slot-fits _ c.read_term.ensures c.in-Some.is

pub slice_bounds-is_zero-start : goal.slice_bounds-is_zero-start
slice_bounds-is_zero-start c = slot-fits _ c.read_term.ensures c.in-Some.is

pub returns-in-Some : goal.returns-in-Some
returns-in-Some c = slot_is _ c.read_term.ensures c.in-Some.is c.is_zero.ensures
