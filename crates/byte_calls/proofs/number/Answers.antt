-- By the length of the record, and else as the text reads.
use Rattle.lengths.proofs.BufferLaws.{width_is}
use Rattle.byte_calls.proofs.ByteLaws.{number-length, number-done}
use mathlib.Core.Path.{ap}
use mathlib.Core.Bool.{not}
use Rattle.byte_calls.proofs.number.Goals as goal

pub returns-then-not-number_fits : goal.returns-then-not-number_fits
returns-then-not-number_fits c = number-length _ _ c.number_fits.ensures (ap not c.if-not-number_fits.true) c.number.ensures

pub after_number-requires : goal.after_number-requires
after_number-requires c =
    width_is c.number_fits.ensures (ap not c.if-not-number_fits.false)

pub returns : goal.returns
returns c =
    number-done _ _ c.number_fits.ensures (ap not c.if-not-number_fits.false) c.read_number-answer.ensures c.after_number.ensures.record_after c.after_number.ensures.value
