-- By the lengths, by whether the bytes are a saved run, and else as the call answers.
use Rattle.lengths.proofs.BufferLaws.{saved-is, report-is}
use Rattle.layout.proofs.ReadLaws.{read_none, read_some}
use Rattle.exports.proofs.ExportLaws.{publish-length, publish-unread, publish-done}
use borrow.Author.Rules.{rules}
use mathlib.Core.Path.{ap}
use mathlib.Core.Bool.{not}
use Rattle.exports.proofs.willetcoffer_publish.Goals as goal

pub returns-then-not-publish_fits : goal.returns-then-not-publish_fits
returns-then-not-publish_fits c =
    λ ranks. publish-length _ _ _ _ _ c.publish_fits.ensures (ap not c.if-not-publish_fits.true) c.number.ensures

pub read_saved-read-requires : goal.read_saved-read-requires
read_saved-read-requires c =
    saved-is _ _ _ _ _ c.publish_fits.ensures (ap not c.if-not-publish_fits.false)

pub returns-then-not-read : goal.returns-then-not-read
returns-then-not-read c =
    λ ranks. publish-unread _ _ _ _ _ c.publish_fits.ensures (ap not c.if-not-publish_fits.false) (read_none _ _ c.read_saved-read.ensures c.if-not-read.true) c.number-then-not-read.ensures

pub after_publish-requires : goal.after_publish-requires
after_publish-requires c =
    report-is _ _ _ _ _ c.publish_fits.ensures (ap not c.if-not-publish_fits.false)

pub returns : goal.returns
returns c =
    λ ranks. publish-done _ _ _ _ _ c.publish_fits.ensures (ap not c.if-not-publish_fits.false) (read_some _ _ c.read_saved-read.ensures c.if-not-read.false) (c.publish-answer.ensures ranks)
    c.after_publish.ensures.report_after c.after_publish.ensures.value
