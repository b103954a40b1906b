-- `pages::triples::take_records` meets its contract.
use native.Mathlib.Omega.{arith}
use Rattle.records.proofs.NumberingLaws.{held-width}
use Rattle.pages.proofs.TakeLaws.{record-long, going-first, left_one, left-reads, here-at, end-next, left-none, left-next, left-terms}
use Rattle.pages.proofs.triples.take_records.Goals as goal

pub loop-at-init : goal.loop-at-init
loop-at-init c =
    (omega arith, omega (arith, c.requires.skipped_value.0), omega (arith, c.requires.skipped_value.1), held-width _ _ _ c.requires.held_both.2.terms, c.requires.skipped_value.2, c.requires.held_hashes, going-first _ _ _ _ _ _)

pub next_record-next-requires : goal.next_record-next-requires
next_record-next-requires c =
    let l = c.loop-at.invariant.6 c.requires.reads.0 c.requires.page_reads.0 c.requires.held_both.0 c.requires.held_both.1 c.requires.reads.1 c.requires.page_reads.1 c.requires.held_both.2 in
    left-reads _ _ _ _ _ _ _ _ _ l c.loop-at-test.true

pub take_record-counts-requires : goal.take_record-counts-requires
take_record-counts-requires c =
    let l = c.loop-at.invariant.6 c.requires.reads.0 c.requires.page_reads.0 c.requires.held_both.0 c.requires.held_both.1 c.requires.reads.1 c.requires.page_reads.1 c.requires.held_both.2 in
    let h = here-at _ _ _ _ _ _ _ _ _ l c.loop-at-test.true _ c.next_record-next.ensures in record { record_at = (_, h); reads = c.requires.reads; held_both = (_, _, l.holds); held_hashes = c.loop-at.invariant.5; skipped_le_at = c.loop-at.invariant.1; at_le_page_limit = omega (arith, c.loop-at.invariant.0, c.requires.page_len_bound); keys_lt_record_limit = (omega (arith, c.loop-at.invariant.2, record-long _ _ _ _ h, h.fits, c.requires.page_len_bound), c.loop-at.invariant.4) }

pub shape_of-terms-then-counts-gt-TERM_LIMIT : goal.shape_of-terms-then-counts-gt-TERM_LIMIT
shape_of-terms-then-counts-gt-TERM_LIMIT c =
    omega (arith, c.loop-at.invariant.3, held-width _ _ _ c.requires.held_both.2.terms)

pub shape_of-hashes-then-counts-gt-TERM_LIMIT : goal.shape_of-hashes-then-counts-gt-TERM_LIMIT
shape_of-hashes-then-counts-gt-TERM_LIMIT c =
    omega (arith, c.take_record-counts.ensures.held_hashes_2.room, c.requires.held_hashes.room)

pub shape_of-keys-then-counts-gt-TERM_LIMIT : goal.shape_of-keys-then-counts-gt-TERM_LIMIT
shape_of-keys-then-counts-gt-TERM_LIMIT c =
    omega (arith, c.loop-at.invariant.4, c.requires.skipped_value.2)

pub returns-then-counts-gt-TERM_LIMIT : goal.returns-then-counts-gt-TERM_LIMIT
returns-then-counts-gt-TERM_LIMIT c =
    let l = c.loop-at.invariant.6 c.requires.reads.0 c.requires.page_reads.0 c.requires.held_both.0 c.requires.held_both.1 c.requires.reads.1 c.requires.page_reads.1 c.requires.held_both.2 in
    let x = here-at _ _ _ _ _ _ _ _ _ l c.loop-at-test.true _ c.next_record-next.ensures in record {
      took = (λ S rs o k e r h. let l = c.loop-at.invariant.6 S rs o k e r h in
          left-terms _ _ _ _ _ _ _ _ _ l c.loop-at-test.true _ _ _ (c.take_record-counts.ensures.took S _ o _ e (here-at _ _ _ _ _ _ _ _ _ l c.loop-at-test.true _ c.next_record-next.ensures)
          l.holds) c.if-counts-gt-TERM_LIMIT.true);
      keys_le_record_limit = omega (arith, c.take_record-counts.ensures.keys_bound, c.loop-at.invariant.2, record-long _ _ _ _ x, x.fits, c.requires.page_len_bound);
    }

pub loop-at-smaller : goal.loop-at-smaller
loop-at-smaller c =
    let l = c.loop-at.invariant.6 c.requires.reads.0 c.requires.page_reads.0 c.requires.held_both.0 c.requires.held_both.1 c.requires.reads.1 c.requires.page_reads.1 c.requires.held_both.2 in
    let z = left_one _ _ _ _ _ _ _ _ _ l c.loop-at-test.true in let e = end-next _ _ _ _ _ _ _ _ _ l c.loop-at-test.true _ c.next_record-next.ensures in
    omega (arith, e, z.farther, c.loop-at-test.true)

pub loop-at-preserved : goal.loop-at-preserved
loop-at-preserved c =
    let l = c.loop-at.invariant.6 c.requires.reads.0 c.requires.page_reads.0 c.requires.held_both.0 c.requires.held_both.1 c.requires.reads.1 c.requires.page_reads.1 c.requires.held_both.2 in
    let x = here-at _ _ _ _ _ _ _ _ _ l c.loop-at-test.true _ c.next_record-next.ensures in let z = left_one _ _ _ _ _ _ _ _ _ l c.loop-at-test.true in
    let e = end-next _ _ _ _ _ _ _ _ _ l c.loop-at-test.true _ c.next_record-next.ensures in let w = c.take_record-counts.ensures.took _ _ _ _ c.requires.reads.1 x l.holds in (
      omega (arith, x.fits),
      omega (arith, e, z.farther, c.take_record-counts.ensures.skipped_bound, c.loop-at.invariant.1),
      omega (arith, c.take_record-counts.ensures.keys_bound, c.loop-at.invariant.2, record-long _ _ _ _ x),
      w.term_width,
      omega (arith, c.loop-at.invariant.4, c.take_record-counts.auto.keys),
      c.take_record-counts.ensures.held_hashes_2,
      λ S rs o k e r h. let l = c.loop-at.invariant.6 S rs o k e r h in
          left-next _ _ _ _ _ _ _ _ _ l c.loop-at-test.true _ _ _ (c.take_record-counts.ensures.took S _ o _ e (here-at _ _ _ _ _ _ _ _ _ l c.loop-at-test.true _ c.next_record-next.ensures)
          l.holds) _ c.next_record-next.ensures c.if-counts-gt-TERM_LIMIT.false,
    )

pub shape_of-terms : goal.shape_of-terms
shape_of-terms c =
    omega (arith, c.loop-at.invariant.3, held-width _ _ _ c.requires.held_both.2.terms)

pub shape_of-hashes : goal.shape_of-hashes
shape_of-hashes c =
    omega (arith, c.loop-at.invariant.5.room, c.requires.held_hashes.room)

pub shape_of-keys : goal.shape_of-keys
shape_of-keys c =
    omega (arith, c.loop-at.invariant.4, c.requires.skipped_value.2)

pub returns : goal.returns
returns c = record { took = (λ S rs o k e r h. left-none _ _ _ _ _ _ _ _ _ (c.loop-at.invariant.6 S rs o k e r h) c.loop-at-test.false); keys_le_record_limit = omega (arith, c.loop-at.invariant.2, c.loop-at.invariant.0, c.requires.page_len_bound) }
