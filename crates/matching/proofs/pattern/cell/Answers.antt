-- `matching::pattern::cell` meets its contract, by the laws of PatternRows.
use native.Mathlib.Omega.{arith}
use Rattle.matching.proofs.PatternRows.{cell-dollar, cell-last, cell-many, cell-one}
use Rattle.matching.proofs.pattern.cell.Goals as goal

pub returns-then-a-eq-DOLLAR : goal.returns-then-a-eq-DOLLAR
returns-then-a-eq-DOLLAR c =
    λ t L R r e. cell-dollar c.args.pattern.now c.args.k c.args.b (omega (arith, c.requires)) t c.args.later c.args.row c.hit-found.result c.hit-found.ensures L R
    r e (omega (arith, c.requires, c.if-next-size.true)) c.if-a-eq-DOLLAR.true

pub returns-then-next-size : goal.returns-then-next-size
returns-then-next-size c =
    λ t L R r e. cell-last c.args.pattern.now c.args.k c.args.b (omega (arith, c.requires)) t c.args.later c.args.row c.hit-found.result c.hit-found.ensures L R r
    e (omega (arith, c.requires, c.if-next-size.true)) c.if-a-eq-DOLLAR.false

pub returns-then-pattern-next-eq-STAR : goal.returns-then-pattern-next-eq-STAR
returns-then-pattern-next-eq-STAR c =
    λ t L R r e. cell-many c.args.pattern.now c.args.k c.args.b (omega (arith, c.requires)) t c.args.later c.args.row c.hit-found.result c.hit-found.ensures L R r
    e (omega (arith, c.requires, c.if-next-size.false)) c.if-pattern-next-eq-STAR.true

pub returns : goal.returns
returns c =
    λ t L R r e. cell-one c.args.pattern.now c.args.k c.args.b (omega (arith, c.requires)) t c.args.later c.args.row c.hit-found.result c.hit-found.ensures L R r e
    (omega (arith, c.requires, c.if-next-size.false)) c.if-pattern-next-eq-STAR.false
