-- By the length of the report, and else as the card is answered.
use Rattle.lengths.proofs.BufferLaws.{width_is}
use Rattle.byte_calls.proofs.ByteLaws.{suggest-length, suggest-done}
use mathlib.Core.Path.{ap}
use mathlib.Core.Bool.{not}
use Rattle.byte_calls.proofs.suggest.Goals as goal

pub returns-then-not-suggest_fits : goal.returns-then-not-suggest_fits
returns-then-not-suggest_fits c = suggest-length _ _ _ _ c.suggest_fits.ensures (ap not c.if-not-suggest_fits.true) c.number.ensures

pub after_suggest-requires : goal.after_suggest-requires
after_suggest-requires c =
    width_is c.suggest_fits.ensures (ap not c.if-not-suggest_fits.false)

pub returns : goal.returns
returns c =
    suggest-done _ _ _ _ c.suggest_fits.ensures (ap not c.if-not-suggest_fits.false) c.suggest-answer.ensures c.after_suggest.ensures.report_after c.after_suggest.ensures.value
