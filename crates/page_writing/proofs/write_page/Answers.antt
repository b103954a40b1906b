-- `page_writing::write_page` meets its contract: the page of the keys so far stands first, and what the buffer had after it.
use mathlib.Core.Path.{refl}
use native.Mathlib.Omega.{arith}
use Rattle.sorting.proofs.MergeLaws.{key_in_lem}
use Rattle.page_writing.proofs.WritingLaws.{within, written_on, none_written, page-written}
use Rattle.page_writing.proofs.write_page.Goals as goal

pub loop-key-init : goal.loop-key-init
loop-key-init c = (none_written c.args.table.now c.args.keys.now c.args.out.now, refl)

pub put_record-at-requires : goal.put_record-at-requires
put_record-at-requires c = record { key_value = key_in_lem c.args.table.now c.args.keys.now c.loop-key.key-index c.requires.keys_value (omega arith); key_in_bounds = omega (arith, within c.args.table.now c.args.keys.now c.loop-key.key-index (omega arith), c.requires.keys_in_bounds, c.loop-key.invariant.0.end, c.loop-key.invariant.1) }

pub loop-key-preserved : goal.loop-key-preserved
loop-key-preserved c = (
  written_on c.args.table.now c.args.keys.now c.loop-key.key-index (omega arith) c.loop-key.invariant.0 c.put_record-at.ensures,
  omega (arith, c.loop-key.invariant.1),
)

pub shape_of-out : goal.shape_of-out
shape_of-out c = c.loop-key.invariant.1

pub returns : goal.returns
returns c =
    page-written c.args.table.now c.args.keys.now c.loop-key.key-index (omega arith) c.loop-key.invariant.0
