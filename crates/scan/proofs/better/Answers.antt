-- `scan::better` meets its contract. One law for each way through. Assumes nothing.
use native.Mathlib.Omega.{arith}
use mathlib.Core.Path.{◌∙◌}
use Rattle.scan.proofs.StretchScan.{row-far, row-taken, row-left}
use Rattle.scan.proofs.better.Goals as goal

pub returns-then-c-lo : goal.returns-then-c-lo
returns-then-c-lo c =
    row-far _ _ _ _ _ (c.given_at-c.ensures ∙ c.requires.given_by c.args.lo c.args.key (omega (arith, c.ranges.key.fits))) c.if-c-lo.true

pub returns-then-fits : goal.returns-then-fits
returns-then-fits c =
    let gives = c.given_at-c.ensures ∙ c.requires.given_by c.args.lo c.args.key (omega (arith, c.ranges.key.fits)) in
    row-taken _ _ _ _ _ gives c.if-c-lo.false _ c.of.ensures _ c.fits.ensures c.if-fits.true

pub returns-else-fits : goal.returns-else-fits
returns-else-fits c =
    let gives = c.given_at-c.ensures ∙ c.requires.given_by c.args.lo c.args.key (omega (arith, c.ranges.key.fits)) in
    row-left _ _ _ _ _ gives c.if-c-lo.false _ c.of.ensures _ c.fits.ensures c.if-fits.false
