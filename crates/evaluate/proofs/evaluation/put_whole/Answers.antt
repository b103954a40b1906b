-- The parts of the input, as the code cuts them.
use Prim.Native.Nat.{◌+◌, ◌≤◌}
use native.Mathlib.Omega.{arith}
use lib.ListN.{length}
use Rattle.definitions.specs.Limits.{number_width, term_table_width, quad_table_width, saved_width}
use Rattle.output.proofs.WritingLaws.{written_as}
use Rattle.evaluator_input.specs.Input.{head_width}
use Rattle.evaluate.proofs.EvaluationLaws.{begun, lent_fits, saved-long, lines_fit, parts_are}
use Rattle.evaluate.proofs.evaluation.put_whole.Goals as goal

pub starts_in-parts-requires : goal.starts_in-parts-requires
starts_in-parts-requires c =
    omega (arith, begun c.args.input.now c.requires.input_value)

pub slice_bounds-put_entered-count : goal.slice_bounds-put_entered-count
slice_bounds-put_entered-count c =
    let room : c.starts_in-parts.result.table + term_table_width + quad_table_width + saved_width + number_width ≤ length c.args.input.now = omega (arith, c.starts_in-parts.ensures.table_value, begun c.args.input.now c.requires.input_value) in
    let order : (head_width ≤ c.starts_in-parts.result.schema) × (c.starts_in-parts.result.schema ≤ c.starts_in-parts.result.script) × (c.starts_in-parts.result.script ≤ c.starts_in-parts.result.table) = (c.starts_in-parts.ensures.head_width_le_schema.0, c.starts_in-parts.ensures.head_width_le_schema.1, c.starts_in-parts.ensures.head_width_le_schema.2) in omega (arith, room, order.0, order.1, order.2)

pub slice_bounds-put_entered-start : goal.slice_bounds-put_entered-start
slice_bounds-put_entered-start c =
    let room : c.starts_in-parts.result.table + term_table_width + quad_table_width + saved_width + number_width ≤ length c.args.input.now = omega (arith, c.starts_in-parts.ensures.table_value, begun c.args.input.now c.requires.input_value) in
    let order : (head_width ≤ c.starts_in-parts.result.schema) × (c.starts_in-parts.result.schema ≤ c.starts_in-parts.result.script) × (c.starts_in-parts.result.script ≤ c.starts_in-parts.result.table) = (c.starts_in-parts.ensures.head_width_le_schema.0, c.starts_in-parts.ensures.head_width_le_schema.1, c.starts_in-parts.ensures.head_width_le_schema.2) in omega (arith, room, order.0, order.1, order.2)

pub slice_bounds-put_entered-end : goal.slice_bounds-put_entered-end
slice_bounds-put_entered-end c =
    let room : c.starts_in-parts.result.table + term_table_width + quad_table_width + saved_width + number_width ≤ length c.args.input.now = omega (arith, c.starts_in-parts.ensures.table_value, begun c.args.input.now c.requires.input_value) in
    let order : (head_width ≤ c.starts_in-parts.result.schema) × (c.starts_in-parts.result.schema ≤ c.starts_in-parts.result.script) × (c.starts_in-parts.result.script ≤ c.starts_in-parts.result.table) = (c.starts_in-parts.ensures.head_width_le_schema.0, c.starts_in-parts.ensures.head_width_le_schema.1, c.starts_in-parts.ensures.head_width_le_schema.2) in omega (arith, room, order.0, order.1, order.2)

pub slice_bounds-put_entered-count-2 : goal.slice_bounds-put_entered-count-2
slice_bounds-put_entered-count-2 c =
    let room : c.starts_in-parts.result.table + term_table_width + quad_table_width + saved_width + number_width ≤ length c.args.input.now = omega (arith, c.starts_in-parts.ensures.table_value, begun c.args.input.now c.requires.input_value) in
    let order : (head_width ≤ c.starts_in-parts.result.schema) × (c.starts_in-parts.result.schema ≤ c.starts_in-parts.result.script) × (c.starts_in-parts.result.script ≤ c.starts_in-parts.result.table) = (c.starts_in-parts.ensures.head_width_le_schema.0, c.starts_in-parts.ensures.head_width_le_schema.1, c.starts_in-parts.ensures.head_width_le_schema.2) in
    omega (arith, room, order.0, order.1, order.2)

pub slice_bounds-put_entered-start-2 : goal.slice_bounds-put_entered-start-2
slice_bounds-put_entered-start-2 c =
    let room : c.starts_in-parts.result.table + term_table_width + quad_table_width + saved_width + number_width ≤ length c.args.input.now = omega (arith, c.starts_in-parts.ensures.table_value, begun c.args.input.now c.requires.input_value) in
    let order : (head_width ≤ c.starts_in-parts.result.schema) × (c.starts_in-parts.result.schema ≤ c.starts_in-parts.result.script) × (c.starts_in-parts.result.script ≤ c.starts_in-parts.result.table) = (c.starts_in-parts.ensures.head_width_le_schema.0, c.starts_in-parts.ensures.head_width_le_schema.1, c.starts_in-parts.ensures.head_width_le_schema.2) in
    omega (arith, room, order.0, order.1, order.2)

pub slice_bounds-put_entered-end-2 : goal.slice_bounds-put_entered-end-2
slice_bounds-put_entered-end-2 c =
    let room : c.starts_in-parts.result.table + term_table_width + quad_table_width + saved_width + number_width ≤ length c.args.input.now = omega (arith, c.starts_in-parts.ensures.table_value, begun c.args.input.now c.requires.input_value) in
    let order : (head_width ≤ c.starts_in-parts.result.schema) × (c.starts_in-parts.result.schema ≤ c.starts_in-parts.result.script) × (c.starts_in-parts.result.script ≤ c.starts_in-parts.result.table) = (c.starts_in-parts.ensures.head_width_le_schema.0, c.starts_in-parts.ensures.head_width_le_schema.1, c.starts_in-parts.ensures.head_width_le_schema.2) in
    omega (arith, room, order.0, order.1, order.2)

pub slice_bounds-put_entered-count-3 : goal.slice_bounds-put_entered-count-3
slice_bounds-put_entered-count-3 c =
    let room : c.starts_in-parts.result.table + term_table_width + quad_table_width + saved_width + number_width ≤ length c.args.input.now = omega (arith, c.starts_in-parts.ensures.table_value, begun c.args.input.now c.requires.input_value) in
    let order : (head_width ≤ c.starts_in-parts.result.schema) × (c.starts_in-parts.result.schema ≤ c.starts_in-parts.result.script) × (c.starts_in-parts.result.script ≤ c.starts_in-parts.result.table) = (c.starts_in-parts.ensures.head_width_le_schema.0, c.starts_in-parts.ensures.head_width_le_schema.1, c.starts_in-parts.ensures.head_width_le_schema.2) in
    omega (arith, room, order.0, order.1, order.2)

pub slice_bounds-put_entered-start-3 : goal.slice_bounds-put_entered-start-3
slice_bounds-put_entered-start-3 c =
    let room : c.starts_in-parts.result.table + term_table_width + quad_table_width + saved_width + number_width ≤ length c.args.input.now = omega (arith, c.starts_in-parts.ensures.table_value, begun c.args.input.now c.requires.input_value) in
    let order : (head_width ≤ c.starts_in-parts.result.schema) × (c.starts_in-parts.result.schema ≤ c.starts_in-parts.result.script) × (c.starts_in-parts.result.script ≤ c.starts_in-parts.result.table) = (c.starts_in-parts.ensures.head_width_le_schema.0, c.starts_in-parts.ensures.head_width_le_schema.1, c.starts_in-parts.ensures.head_width_le_schema.2) in
    omega (arith, room, order.0, order.1, order.2)

pub slice_bounds-put_entered-end-3 : goal.slice_bounds-put_entered-end-3
slice_bounds-put_entered-end-3 c =
    let room : c.starts_in-parts.result.table + term_table_width + quad_table_width + saved_width + number_width ≤ length c.args.input.now = omega (arith, c.starts_in-parts.ensures.table_value, begun c.args.input.now c.requires.input_value) in
    let order : (head_width ≤ c.starts_in-parts.result.schema) × (c.starts_in-parts.result.schema ≤ c.starts_in-parts.result.script) × (c.starts_in-parts.result.script ≤ c.starts_in-parts.result.table) = (c.starts_in-parts.ensures.head_width_le_schema.0, c.starts_in-parts.ensures.head_width_le_schema.1, c.starts_in-parts.ensures.head_width_le_schema.2) in
    omega (arith, room, order.0, order.1, order.2)

pub slice_bounds-put_entered-count-4 : goal.slice_bounds-put_entered-count-4
slice_bounds-put_entered-count-4 c =
    let room : c.starts_in-parts.result.table + term_table_width + quad_table_width + saved_width + number_width ≤ length c.args.input.now = omega (arith, c.starts_in-parts.ensures.table_value, begun c.args.input.now c.requires.input_value) in
    let order : (head_width ≤ c.starts_in-parts.result.schema) × (c.starts_in-parts.result.schema ≤ c.starts_in-parts.result.script) × (c.starts_in-parts.result.script ≤ c.starts_in-parts.result.table) = (c.starts_in-parts.ensures.head_width_le_schema.0, c.starts_in-parts.ensures.head_width_le_schema.1, c.starts_in-parts.ensures.head_width_le_schema.2) in
    omega (arith, room, order.0, order.1, order.2)

pub slice_bounds-put_entered-start-4 : goal.slice_bounds-put_entered-start-4
slice_bounds-put_entered-start-4 c =
    let room : c.starts_in-parts.result.table + term_table_width + quad_table_width + saved_width + number_width ≤ length c.args.input.now = omega (arith, c.starts_in-parts.ensures.table_value, begun c.args.input.now c.requires.input_value) in
    let order : (head_width ≤ c.starts_in-parts.result.schema) × (c.starts_in-parts.result.schema ≤ c.starts_in-parts.result.script) × (c.starts_in-parts.result.script ≤ c.starts_in-parts.result.table) = (c.starts_in-parts.ensures.head_width_le_schema.0, c.starts_in-parts.ensures.head_width_le_schema.1, c.starts_in-parts.ensures.head_width_le_schema.2) in
    omega (arith, room, order.0, order.1, order.2)

pub slice_bounds-put_entered-end-4 : goal.slice_bounds-put_entered-end-4
slice_bounds-put_entered-end-4 c =
    let room : c.starts_in-parts.result.table + term_table_width + quad_table_width + saved_width + number_width ≤ length c.args.input.now = omega (arith, c.starts_in-parts.ensures.table_value, begun c.args.input.now c.requires.input_value) in
    let order : (head_width ≤ c.starts_in-parts.result.schema) × (c.starts_in-parts.result.schema ≤ c.starts_in-parts.result.script) × (c.starts_in-parts.result.script ≤ c.starts_in-parts.result.table) = (c.starts_in-parts.ensures.head_width_le_schema.0, c.starts_in-parts.ensures.head_width_le_schema.1, c.starts_in-parts.ensures.head_width_le_schema.2) in
    omega (arith, room, order.0, order.1, order.2)

pub slice_bounds-put_entered-count-5 : goal.slice_bounds-put_entered-count-5
slice_bounds-put_entered-count-5 c =
    let room : c.starts_in-parts.result.table + term_table_width + quad_table_width + saved_width + number_width ≤ length c.args.input.now = omega (arith, c.starts_in-parts.ensures.table_value, begun c.args.input.now c.requires.input_value) in
    let order : (head_width ≤ c.starts_in-parts.result.schema) × (c.starts_in-parts.result.schema ≤ c.starts_in-parts.result.script) × (c.starts_in-parts.result.script ≤ c.starts_in-parts.result.table) = (c.starts_in-parts.ensures.head_width_le_schema.0, c.starts_in-parts.ensures.head_width_le_schema.1, c.starts_in-parts.ensures.head_width_le_schema.2) in
    omega (arith, room, order.0, order.1, order.2)

pub slice_bounds-put_entered-start-5 : goal.slice_bounds-put_entered-start-5
slice_bounds-put_entered-start-5 c =
    let room : c.starts_in-parts.result.table + term_table_width + quad_table_width + saved_width + number_width ≤ length c.args.input.now = omega (arith, c.starts_in-parts.ensures.table_value, begun c.args.input.now c.requires.input_value) in
    let order : (head_width ≤ c.starts_in-parts.result.schema) × (c.starts_in-parts.result.schema ≤ c.starts_in-parts.result.script) × (c.starts_in-parts.result.script ≤ c.starts_in-parts.result.table) = (c.starts_in-parts.ensures.head_width_le_schema.0, c.starts_in-parts.ensures.head_width_le_schema.1, c.starts_in-parts.ensures.head_width_le_schema.2) in
    omega (arith, room, order.0, order.1, order.2)

pub slice_bounds-put_entered-end-5 : goal.slice_bounds-put_entered-end-5
slice_bounds-put_entered-end-5 c =
    let room : c.starts_in-parts.result.table + term_table_width + quad_table_width + saved_width + number_width ≤ length c.args.input.now = omega (arith, c.starts_in-parts.ensures.table_value, begun c.args.input.now c.requires.input_value) in
    let order : (head_width ≤ c.starts_in-parts.result.schema) × (c.starts_in-parts.result.schema ≤ c.starts_in-parts.result.script) × (c.starts_in-parts.result.script ≤ c.starts_in-parts.result.table) = (c.starts_in-parts.ensures.head_width_le_schema.0, c.starts_in-parts.ensures.head_width_le_schema.1, c.starts_in-parts.ensures.head_width_le_schema.2) in
    omega (arith, room, order.0, order.1, order.2)

pub slice_bounds-put_entered-count-6 : goal.slice_bounds-put_entered-count-6
slice_bounds-put_entered-count-6 c =
    let room : c.starts_in-parts.result.table + term_table_width + quad_table_width + saved_width + number_width ≤ length c.args.input.now = omega (arith, c.starts_in-parts.ensures.table_value, begun c.args.input.now c.requires.input_value) in
    let order : (head_width ≤ c.starts_in-parts.result.schema) × (c.starts_in-parts.result.schema ≤ c.starts_in-parts.result.script) × (c.starts_in-parts.result.script ≤ c.starts_in-parts.result.table) = (c.starts_in-parts.ensures.head_width_le_schema.0, c.starts_in-parts.ensures.head_width_le_schema.1, c.starts_in-parts.ensures.head_width_le_schema.2) in
    omega (arith, room, order.0, order.1, order.2)

pub slice_bounds-put_entered-start-6 : goal.slice_bounds-put_entered-start-6
slice_bounds-put_entered-start-6 c =
    let room : c.starts_in-parts.result.table + term_table_width + quad_table_width + saved_width + number_width ≤ length c.args.input.now = omega (arith, c.starts_in-parts.ensures.table_value, begun c.args.input.now c.requires.input_value) in
    let order : (head_width ≤ c.starts_in-parts.result.schema) × (c.starts_in-parts.result.schema ≤ c.starts_in-parts.result.script) × (c.starts_in-parts.result.script ≤ c.starts_in-parts.result.table) = (c.starts_in-parts.ensures.head_width_le_schema.0, c.starts_in-parts.ensures.head_width_le_schema.1, c.starts_in-parts.ensures.head_width_le_schema.2) in
    omega (arith, room, order.0, order.1, order.2)

pub slice_bounds-put_entered-end-6 : goal.slice_bounds-put_entered-end-6
slice_bounds-put_entered-end-6 c =
    let room : c.starts_in-parts.result.table + term_table_width + quad_table_width + saved_width + number_width ≤ length c.args.input.now = omega (arith, c.starts_in-parts.ensures.table_value, begun c.args.input.now c.requires.input_value) in
    let order : (head_width ≤ c.starts_in-parts.result.schema) × (c.starts_in-parts.result.schema ≤ c.starts_in-parts.result.script) × (c.starts_in-parts.result.script ≤ c.starts_in-parts.result.table) = (c.starts_in-parts.ensures.head_width_le_schema.0, c.starts_in-parts.ensures.head_width_le_schema.1, c.starts_in-parts.ensures.head_width_le_schema.2) in
    omega (arith, room, order.0, order.1, order.2)

pub slice_bounds-put_entered-count-7 : goal.slice_bounds-put_entered-count-7
slice_bounds-put_entered-count-7 c =
    let room : c.starts_in-parts.result.table + term_table_width + quad_table_width + saved_width + number_width ≤ length c.args.input.now = omega (arith, c.starts_in-parts.ensures.table_value, begun c.args.input.now c.requires.input_value) in
    let order : (head_width ≤ c.starts_in-parts.result.schema) × (c.starts_in-parts.result.schema ≤ c.starts_in-parts.result.script) × (c.starts_in-parts.result.script ≤ c.starts_in-parts.result.table) = (c.starts_in-parts.ensures.head_width_le_schema.0, c.starts_in-parts.ensures.head_width_le_schema.1, c.starts_in-parts.ensures.head_width_le_schema.2) in
    omega (arith, room, order.0, order.1, order.2)

pub slice_bounds-put_entered-start-7 : goal.slice_bounds-put_entered-start-7
slice_bounds-put_entered-start-7 c =
    let room : c.starts_in-parts.result.table + term_table_width + quad_table_width + saved_width + number_width ≤ length c.args.input.now = omega (arith, c.starts_in-parts.ensures.table_value, begun c.args.input.now c.requires.input_value) in
    let order : (head_width ≤ c.starts_in-parts.result.schema) × (c.starts_in-parts.result.schema ≤ c.starts_in-parts.result.script) × (c.starts_in-parts.result.script ≤ c.starts_in-parts.result.table) = (c.starts_in-parts.ensures.head_width_le_schema.0, c.starts_in-parts.ensures.head_width_le_schema.1, c.starts_in-parts.ensures.head_width_le_schema.2) in
    omega (arith, room, order.0, order.1, order.2)

pub slice_bounds-put_entered-end-7 : goal.slice_bounds-put_entered-end-7
slice_bounds-put_entered-end-7 c =
    let room : c.starts_in-parts.result.table + term_table_width + quad_table_width + saved_width + number_width ≤ length c.args.input.now = omega (arith, c.starts_in-parts.ensures.table_value, begun c.args.input.now c.requires.input_value) in
    let order : (head_width ≤ c.starts_in-parts.result.schema) × (c.starts_in-parts.result.schema ≤ c.starts_in-parts.result.script) × (c.starts_in-parts.result.script ≤ c.starts_in-parts.result.table) = (c.starts_in-parts.ensures.head_width_le_schema.0, c.starts_in-parts.ensures.head_width_le_schema.1, c.starts_in-parts.ensures.head_width_le_schema.2) in
    omega (arith, room, order.0, order.1, order.2)

pub long_at-requires : goal.long_at-requires
long_at-requires c =
    let room : c.starts_in-parts.result.table + term_table_width + quad_table_width + saved_width + number_width ≤ length c.args.input.now = omega (arith, c.starts_in-parts.ensures.table_value, begun c.args.input.now c.requires.input_value) in
    omega (arith, room)

pub slice_bounds-put_entered-count-8 : goal.slice_bounds-put_entered-count-8
slice_bounds-put_entered-count-8 c =
    let room : c.starts_in-parts.result.table + term_table_width + quad_table_width + saved_width + number_width ≤ length c.args.input.now = omega (arith, c.starts_in-parts.ensures.table_value, begun c.args.input.now c.requires.input_value) in
    let order : (head_width ≤ c.starts_in-parts.result.schema) × (c.starts_in-parts.result.schema ≤ c.starts_in-parts.result.script) × (c.starts_in-parts.result.script ≤ c.starts_in-parts.result.table) = (c.starts_in-parts.ensures.head_width_le_schema.0, c.starts_in-parts.ensures.head_width_le_schema.1, c.starts_in-parts.ensures.head_width_le_schema.2) in
    omega (arith, room, order.0, order.1, order.2)

pub slice_bounds-put_entered-start-8 : goal.slice_bounds-put_entered-start-8
slice_bounds-put_entered-start-8 c =
    let room : c.starts_in-parts.result.table + term_table_width + quad_table_width + saved_width + number_width ≤ length c.args.input.now = omega (arith, c.starts_in-parts.ensures.table_value, begun c.args.input.now c.requires.input_value) in
    let order : (head_width ≤ c.starts_in-parts.result.schema) × (c.starts_in-parts.result.schema ≤ c.starts_in-parts.result.script) × (c.starts_in-parts.result.script ≤ c.starts_in-parts.result.table) = (c.starts_in-parts.ensures.head_width_le_schema.0, c.starts_in-parts.ensures.head_width_le_schema.1, c.starts_in-parts.ensures.head_width_le_schema.2) in
    omega (arith, room, order.0, order.1, order.2)

pub slice_bounds-put_entered-end-8 : goal.slice_bounds-put_entered-end-8
slice_bounds-put_entered-end-8 c =
    let room : c.starts_in-parts.result.table + term_table_width + quad_table_width + saved_width + number_width ≤ length c.args.input.now = omega (arith, c.starts_in-parts.ensures.table_value, begun c.args.input.now c.requires.input_value) in
    let order : (head_width ≤ c.starts_in-parts.result.schema) × (c.starts_in-parts.result.schema ≤ c.starts_in-parts.result.script) × (c.starts_in-parts.result.script ≤ c.starts_in-parts.result.table) = (c.starts_in-parts.ensures.head_width_le_schema.0, c.starts_in-parts.ensures.head_width_le_schema.1, c.starts_in-parts.ensures.head_width_le_schema.2) in
    omega (arith, room, order.0, order.1, order.2)

pub put_entered-requires : goal.put_entered-requires
put_entered-requires c = record { t = lent_fits c.args.input.now _ _ _ 0 c.starts_in-parts.ensures.schema_value c.starts_in-parts.ensures.script_value c.starts_in-parts.ensures.table_value c.requires.input_value; saved_len = saved-long c.args.input.now _ _ _ 0 c.starts_in-parts.ensures.schema_value c.starts_in-parts.ensures.script_value c.starts_in-parts.ensures.table_value c.requires.input_value; tuple_width_in_bounds = omega (arith, lines_fit c.args.input.now _ _ _ 0 c.starts_in-parts.ensures.schema_value c.starts_in-parts.ensures.script_value c.starts_in-parts.ensures.table_value c.requires.input_value c.requires.input_len_bound, c.requires.out_len); line_room_in_bounds = omega (arith, c.requires.out_len) }

pub returns : goal.returns
returns c = record { written = written_as c.put_entered.ensures.written (parts_are _ _ _ _ _ c.starts_in-parts.ensures.schema_value c.starts_in-parts.ensures.script_value c.starts_in-parts.ensures.table_value c.requires.input_value c.requires.input_len_bound c.long_at.ensures); upper_bound = omega (arith, c.put_entered.ensures.upper_bound, c.requires.out_len) }
