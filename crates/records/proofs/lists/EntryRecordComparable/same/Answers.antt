-- `same` of schema records meets its contract.
use native.Mathlib.Omega.{arith}
use Rattle.fields.proofs.SameLaws.{entry-inside, same-properties, compared}
use Rattle.records.proofs.lists.EntryRecordComparable.same.Goals as goal

pub overflow_add-a_field : goal.overflow_add-a_field
overflow_add-a_field c = omega (arith, entry-inside _ _ c.requires.a_value)

pub overflow_add-b_field : goal.overflow_add-b_field
overflow_add-b_field c = omega (arith, entry-inside _ _ c.requires.b_value)

pub overflow_add-a_field-2 : goal.overflow_add-a_field-2
overflow_add-a_field-2 c = omega (arith, entry-inside _ _ c.requires.a_value)

pub slice_bounds-same_bytes-end : goal.slice_bounds-same_bytes-end
slice_bounds-same_bytes-end c = omega (arith, entry-inside _ _ c.requires.a_value)

pub overflow_add-b_field-2 : goal.overflow_add-b_field-2
overflow_add-b_field-2 c = omega (arith, entry-inside _ _ c.requires.b_value)

pub slice_bounds-same_bytes-end-2 : goal.slice_bounds-same_bytes-end-2
slice_bounds-same_bytes-end-2 c = omega (arith, entry-inside _ _ c.requires.b_value)

pub returns : goal.returns
returns c = same-properties c.args.s.now c.args.a c.args.b c.requires.a_value c.requires.b_value (compared _ _ _ c.same_bytes.ensures)
