-- `matching::range::accepts` meets its contract, by the laws of RangeLaws.
use Rattle.matching.proofs.RangeLaws.{accepts-tagged, accepts-beginning}
use Rattle.matching.proofs.range.accepts.Goals as goal

pub returns-then-range-eq-STAR : goal.returns-then-range-eq-STAR
returns-then-range-eq-STAR c = accepts-tagged c.args.range.now _ c.if-range-eq-STAR.true

pub returns : goal.returns
returns c = accepts-beginning c.args.range.now c.if-range-eq-STAR.false _ c.goes_on.result c.goes_on.ensures
