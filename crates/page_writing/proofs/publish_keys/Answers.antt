-- `page_writing::publish_keys` meets its contract: the keys sorted, their page measured, and written where it fits.
use native.Mathlib.Omega.{arith}
use Rattle.page_writing.specs.Page.{sorted_page}
use Rattle.page_writing.proofs.WritingLaws.{sorted-in, sorted-long, page-long, page-out, too_short, it-fits}
use Rattle.page_writing.proofs.publish_keys.Goals as goal

pub page_length-size-requires : goal.page_length-size-requires
page_length-size-requires c = record { keys_value = sorted-in c.args.table.now c.args.keys.now c.requires.keys_value c.sort_keys.ensures.keys_after; keys_len_bound = omega (arith, sorted-long c.args.table.now c.args.keys.now c.sort_keys.ensures.keys_after, c.requires.keys_len_bound) }

pub returns-then-out-size : goal.returns-then-out-size
returns-then-out-size c =
    too_short (sorted_page c.args.table.now c.args.keys.now) c.args.out.now
    (omega (arith, page-long c.args.table.now c.args.keys.now c.sort_keys.ensures.keys_after c.page_length-size.ensures.value, c.if-out-size.true))

pub write_page-requires : goal.write_page-requires
write_page-requires c = record { keys_value = sorted-in c.args.table.now c.args.keys.now c.requires.keys_value c.sort_keys.ensures.keys_after; keys_in_bounds = omega (arith, c.page_length-size.ensures.value, c.if-out-size.false) }

pub returns : goal.returns
returns c =
    let long = page-long c.args.table.now c.args.keys.now c.sort_keys.ensures.keys_after c.page_length-size.ensures.value in
    it-fits (sorted_page c.args.table.now c.args.keys.now) c.args.out.now (omega (arith, long, c.if-out-size.false)) long
    (page-out c.args.table.now c.args.keys.now c.sort_keys.ensures.keys_after c.args.out.now c.write_page.ensures)
