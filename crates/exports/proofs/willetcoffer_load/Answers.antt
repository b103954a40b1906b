-- By the length of the saved run, and else as the engine answers.
use Rattle.lengths.proofs.BufferLaws.{width_is}
use Rattle.exports.proofs.ExportLaws.{load-length, load-done}
use borrow.Author.Rules.{rules}
use mathlib.Core.Path.{ap}
use mathlib.Core.Bool.{not}
use Rattle.exports.proofs.willetcoffer_load.Goals as goal

pub returns-then-not-load_fits : goal.returns-then-not-load_fits
returns-then-not-load_fits c =
    load-length _ _ c.load_fits.ensures (ap not c.if-not-load_fits.true) c.number.ensures

pub after_load-requires : goal.after_load-requires
after_load-requires c =
    width_is c.load_fits.ensures (ap not c.if-not-load_fits.false)

pub returns : goal.returns
returns c =
    load-done _ _ c.load_fits.ensures (ap not c.if-not-load_fits.false) c.load-loaded.ensures.0 c.load-loaded.ensures.1 c.load-loaded.ensures.2 c.after_load.ensures.value c.after_load.ensures.saved_after
