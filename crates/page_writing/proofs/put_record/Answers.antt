-- `page_writing::put_record` meets its contract: kind, subject, property and object, one after the other.
use Prim.Native.Nat.{◌+◌, ◌*◌, ◌≤◌, ◌<◌}
use native.Mathlib.Omega.{arith}
use lib.ListN.{length}
use Rattle.definitions.specs.Limits.{slot_width, object_offset}
use Rattle.definitions.specs.Terms.{of_term_kind}
use Rattle.fields.specs.Answers.{width_of}
use Rattle.keys.specs.Keys.{quad_of}
use Rattle.record_order.specs.Records.{kind_of}
use Rattle.record_order.proofs.CompareLaws.{subject-in, property-in, object-in, slot-named, kind-within, kind-named, width-named}
use Rattle.page_writing.proofs.WritingLaws.{record-long, kind-small, width-kept, record-written}
use Rattle.page_writing.proofs.put_record.Goals as goal

pub bounds-table-place : goal.bounds-table-place
bounds-table-place c =
    let within : (quad_of c.args.key).object * slot_width < length c.args.table.now = kind-within c.args.table.now c.args.key c.requires.key_value in omega (arith, within, c.object_of-object.ensures.0)

pub overflow_add-kind : goal.overflow_add-kind
overflow_add-kind c =
    omega (arith, kind-small c.args.table.now c.args.key c.requires.key_value, kind-named c.args.table.now c.object_of-object.ensures.0)

pub put_byte-first-requires : goal.put_byte-first-requires
put_byte-first-requires c =
    let room : c.args.at + (object_offset + width_of (of_term_kind (kind_of c.args.table.now (quad_of c.args.key).object))) ≤ length c.args.out.now = omega (arith, record-long c.args.table.now c.args.key c.requires.key_value, c.requires.key_in_bounds) in omega (arith, room)

pub put_body-second-requires : goal.put_body-second-requires
put_body-second-requires c =
    let room : c.args.at + (object_offset + width_of (of_term_kind (kind_of c.args.table.now (quad_of c.args.key).object))) ≤ length c.args.out.now = omega (arith, record-long c.args.table.now c.args.key c.requires.key_value, c.requires.key_in_bounds) in record { slot_value = slot-named c.args.table.now c.subject_of.ensures.0 (subject-in c.args.table.now c.args.key c.requires.key_value); width_lt_slot_width = omega arith; width_in_bounds = omega (arith, room, c.put_byte-first.ensures.end) }

pub put_body-third-requires : goal.put_body-third-requires
put_body-third-requires c =
    let room : c.args.at + (object_offset + width_of (of_term_kind (kind_of c.args.table.now (quad_of c.args.key).object))) ≤ length c.args.out.now = omega (arith, record-long c.args.table.now c.args.key c.requires.key_value, c.requires.key_in_bounds) in record { slot_value = slot-named c.args.table.now c.property_of.ensures.0 (property-in c.args.table.now c.args.key c.requires.key_value); width_lt_slot_width = omega arith; width_in_bounds = omega (arith, room, c.put_byte-first.ensures.end, c.put_body-second.ensures.value) }

pub put_body-requires : goal.put_body-requires
put_body-requires c =
    let room : c.args.at + (object_offset + width_of (of_term_kind (kind_of c.args.table.now (quad_of c.args.key).object))) ≤ length c.args.out.now = omega (arith, record-long c.args.table.now c.args.key c.requires.key_value, c.requires.key_in_bounds) in record {
      slot_value = slot-named c.args.table.now c.object_of-object.ensures.0 (object-in c.args.table.now c.args.key c.requires.key_value);
      width_lt_slot_width = width-named (kind_of c.args.table.now c.object_of-object.result) c.body_width-width.ensures;
      width_in_bounds = omega (
        arith,
        room,
        width-kept c.args.table.now c.args.key c.requires.key_value c.object_of-object.ensures.0 c.body_width-width.ensures,
        c.put_byte-first.ensures.end,
        c.put_body-second.ensures.value,
        c.put_body-third.ensures.value,
      );
    }

pub returns : goal.returns
returns c =
    record-written c.args.table.now c.args.key c.requires.key_value (kind-named c.args.table.now c.object_of-object.ensures.0) c.subject_of.ensures.0
    c.property_of.ensures.0 c.object_of-object.ensures.0 c.requires.key_in_bounds c.body_width-width.ensures c.put_byte-first.ensures c.put_body-second.ensures.written
    c.put_body-third.ensures.written c.put_body.ensures.written
