-- By the length of the report, and else as the engine answers.
use Rattle.lengths.proofs.BufferLaws.{width_is}
use Rattle.byte_calls.proofs.ByteLaws.{total-length, total-done}
use mathlib.Core.Path.{ap}
use mathlib.Core.Bool.{not}
use Rattle.byte_calls.proofs.total.Goals as goal

pub returns-then-not-total_fits : goal.returns-then-not-total_fits
returns-then-not-total_fits c = total-length _ _ _ _ c.total_fits.ensures (ap not c.if-not-total_fits.true) c.number.ensures

pub after_total-requires : goal.after_total-requires
after_total-requires c =
    width_is c.total_fits.ensures (ap not c.if-not-total_fits.false)

pub returns : goal.returns
returns c =
    total-done _ _ _ _ c.total_fits.ensures (ap not c.if-not-total_fits.false) c.total-answer.ensures c.after_total.ensures.report_after c.after_total.ensures.value
