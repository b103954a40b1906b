-- `page_writing::record_length` meets its contract.
use Prim.Native.Nat.{◌*◌, ◌<◌}
use mathlib.Core.Path.{ap, ◌∙◌}
use native.Mathlib.Omega.{arith}
use lib.ListN.{length}
use Rattle.definitions.specs.Limits.{slot_width}
use Rattle.definitions.specs.Terms.{of_term_kind}
use Rattle.fields.specs.Answers.{width_of}
use Rattle.keys.specs.Keys.{quad_of}
use Rattle.record_order.specs.Records.{kind_of}
use Rattle.record_order.proofs.CompareLaws.{kind-within, kind-named, width-named}
use Rattle.page_writing.proofs.WritingLaws.{record-long}
use Rattle.page_writing.proofs.record_length.Goals as goal

pub bounds-table-at : goal.bounds-table-at
bounds-table-at c =
    let within : (quad_of c.args.key).object * slot_width < length c.args.table.now = kind-within c.args.table.now c.args.key c.requires in omega (arith, within, c.object_of-at.ensures.0)

pub overflow_add-result : goal.overflow_add-result
overflow_add-result c =
    omega (arith, width-named (kind_of c.args.table.now c.object_of-at.result) c.body_width.ensures)

pub returns : goal.returns
returns c =
    let kind = kind-named c.args.table.now c.object_of-at.ensures.0 in
    let width = c.body_width.ensures ∙ ap (λ n. width_of (of_term_kind n)) kind in record { value = omega (arith, width, record-long c.args.table.now c.args.key c.requires); upper_bound = omega (arith, width-named (kind_of c.args.table.now c.object_of-at.result) c.body_width.ensures) }
