-- `page_writing::put_body` meets its contract.
use Prim.Native.Nat.{◌+◌, ◌*◌, ◌≤◌}
use native.Mathlib.Omega.{arith}
use lib.ListN.{length}
use Rattle.definitions.specs.Limits.{slot_width}
use Rattle.record_order.proofs.CompareLaws.{slot-fits}
use Rattle.page_writing.proofs.WritingLaws.{body-room, body-put, body_end}
use Rattle.page_writing.proofs.put_body.Goals as goal

pub overflow_mul-first : goal.overflow_mul-first
overflow_mul-first c =
    let fits : c.args.slot * slot_width + slot_width ≤ length c.args.table.now = slot-fits c.args.table.now c.args.slot c.requires.slot_value in omega (arith, fits)

pub overflow_add-first : goal.overflow_add-first
overflow_add-first c =
    let fits : c.args.slot * slot_width + slot_width ≤ length c.args.table.now = slot-fits c.args.table.now c.args.slot c.requires.slot_value in omega (arith, fits)

pub overflow_add-end : goal.overflow_add-end
overflow_add-end c =
    let fits : c.args.slot * slot_width + slot_width ≤ length c.args.table.now = slot-fits c.args.table.now c.args.slot c.requires.slot_value in omega (arith, fits)

pub slice_bounds-put_text-end : goal.slice_bounds-put_text-end
slice_bounds-put_text-end c =
    let fits : c.args.slot * slot_width + slot_width ≤ length c.args.table.now = slot-fits c.args.table.now c.args.slot c.requires.slot_value in omega (arith, fits)

pub put_text-requires : goal.put_text-requires
put_text-requires c =
    omega (arith, body-room c.args.table.now c.args.slot c.args.width c.requires.slot_value c.requires.width_lt_slot_width, c.requires.width_in_bounds)

pub returns : goal.returns
returns c = record { written = body-put c.args.table.now c.args.slot c.args.width c.put_text.ensures; value = body_end c.args.table.now c.args.slot c.args.width c.requires.slot_value c.requires.width_lt_slot_width c.put_text.ensures }
