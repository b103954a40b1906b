-- `page_writing::page_length` meets its contract: the length so far is that of the keys so far.
use mathlib.Core.Path.{ap, ◌∙◌}
use native.Mathlib.Omega.{arith}
use lib.ListN.{length}
use Rattle.sorting.proofs.MergeLaws.{key_in_lem}
use Rattle.page_writing.proofs.WritingLaws.{longer, none-long, all-taken}
use Rattle.page_writing.proofs.page_length.Goals as goal

pub loop-key-init : goal.loop-key-init
loop-key-init c = (none-long c.args.table.now c.args.keys.now, omega arith)

pub record_length-size-requires : goal.record_length-size-requires
record_length-size-requires c =
    key_in_lem c.args.table.now c.args.keys.now c.loop-key.key-index c.requires.keys_value (omega arith)

pub overflow_add-size : goal.overflow_add-size
overflow_add-size c =
    omega (arith, c.record_length-size.ensures.upper_bound, c.loop-key.invariant.1, c.requires.keys_len_bound)

pub loop-key-preserved : goal.loop-key-preserved
loop-key-preserved c = (
  omega (arith, c.loop-key.invariant.0, c.record_length-size.ensures.value, longer c.args.table.now c.args.keys.now c.loop-key.key-index (omega arith)),
  omega (arith, c.record_length-size.ensures.upper_bound, c.loop-key.invariant.1),
)

pub returns : goal.returns
returns c = record { value = c.loop-key.invariant.0 ∙ ap length (all-taken c.args.table.now c.args.keys.now c.loop-key.key-index (omega arith)); upper_bound = omega (arith, c.loop-key.invariant.1, c.requires.keys_len_bound) }
