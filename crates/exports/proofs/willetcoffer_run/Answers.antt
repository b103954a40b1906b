-- By the lengths, by whether the bytes are a saved run, and else as the engine answers.
use Rattle.definitions.specs.Numbers.{refusal_number}
use mir.Facts.{to_z-of_z}
use Rattle.lengths.proofs.BufferLaws.{ranks-fit, saved-fits, report-fits}
use Rattle.layout.proofs.ReadLaws.{read_none, read_some}
use Rattle.exports.proofs.ExportLaws.{run_length, run-unread, run-done}
use borrow.Author.Rules.{rules}
use mathlib.Core.Path.{ap, ◌∙◌}
use mathlib.Core.Bool.{not}
use Rattle.exports.proofs.willetcoffer_run.Goals as goal

pub returns-then-not-run_fits : goal.returns-then-not-run_fits
returns-then-not-run_fits c =
    run_length _ _ _ _ _ c.run_fits.ensures (ap not c.if-not-run_fits.true) c.number.ensures

pub read_saved-read-requires : goal.read_saved-read-requires
read_saved-read-requires c =
    saved-fits _ _ _ _ c.run_fits.ensures (ap not c.if-not-run_fits.false)

pub unread_refusal-requires : goal.unread_refusal-requires
unread_refusal-requires c =
    ranks-fit _ _ _ _ c.run_fits.ensures (ap not c.if-not-run_fits.false)

pub returns-then-not-read : goal.returns-then-not-read
returns-then-not-read c =
    run-unread _ _ _ _ _ c.run_fits.ensures (ap not c.if-not-run_fits.false) (read_none _ _ c.read_saved-read.ensures c.if-not-read.true) (c.number-then-not-read.ensures ∙ ap refusal_number c.unread_refusal.ensures)

pub after_run-requires : goal.after_run-requires
after_run-requires c = record { saved_len = saved-fits _ _ _ _ c.run_fits.ensures (ap not c.if-not-run_fits.false); report_len = report-fits _ _ _ _ c.run_fits.ensures (ap not c.if-not-run_fits.false) }

pub returns : goal.returns
returns c =
    run-done _ _ _ _ _ c.run_fits.ensures (ap not c.if-not-run_fits.false) (read_some _ _ c.read_saved-read.ensures c.if-not-read.false) (to_z-of_z c.ranges.clock) c.run-ran.ensures
    c.after_run.ensures.value c.after_run.ensures.saved_after c.after_run.ensures.report_after
