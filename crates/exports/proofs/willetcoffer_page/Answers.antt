-- By the lengths, by whether the bytes are a saved run, and else as the engine answers.
use Rattle.definitions.specs.Numbers.{refusal_number}
use Rattle.lengths.proofs.BufferLaws.{ranks-fit, saved-fits, report-fits}
use Rattle.layout.proofs.ReadLaws.{read_none, read_some}
use Rattle.exports.proofs.ExportLaws.{page-length, page-unread, page-done}
use borrow.Author.Rules.{rules}
use mathlib.Core.Path.{ap, ◌∙◌}
use mathlib.Core.Bool.{not}
use Rattle.exports.proofs.willetcoffer_page.Goals as goal

pub returns-then-not-page_fits : goal.returns-then-not-page_fits
returns-then-not-page_fits c =
    page-length _ _ _ _ _ c.page_fits.ensures (ap not c.if-not-page_fits.true) c.number.ensures

pub read_saved-read-requires : goal.read_saved-read-requires
read_saved-read-requires c =
    saved-fits _ _ _ _ c.page_fits.ensures (ap not c.if-not-page_fits.false)

pub unread_refusal-requires : goal.unread_refusal-requires
unread_refusal-requires c =
    ranks-fit _ _ _ _ c.page_fits.ensures (ap not c.if-not-page_fits.false)

pub returns-then-not-read : goal.returns-then-not-read
returns-then-not-read c =
    page-unread _ _ _ _ _ c.page_fits.ensures (ap not c.if-not-page_fits.false) (read_none _ _ c.read_saved-read.ensures c.if-not-read.true) (c.number-then-not-read.ensures ∙ ap refusal_number c.unread_refusal.ensures)

pub after_page-requires : goal.after_page-requires
after_page-requires c = record { saved_len = saved-fits _ _ _ _ c.page_fits.ensures (ap not c.if-not-page_fits.false); report_len = report-fits _ _ _ _ c.page_fits.ensures (ap not c.if-not-page_fits.false) }

pub returns : goal.returns
returns c =
    page-done _ _ _ _ _ c.page_fits.ensures (ap not c.if-not-page_fits.false) (read_some _ _ c.read_saved-read.ensures c.if-not-read.false) c.page-paged.ensures
    c.after_page.ensures.value c.after_page.ensures.saved_after c.after_page.ensures.report_after
