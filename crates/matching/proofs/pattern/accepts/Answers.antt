-- `matching::pattern::accepts` meets its contract, by the laws of PatternRows.
use Rattle.matching.proofs.PatternRows.{with-caret, no-caret, caret-there}
use Rattle.matching.proofs.pattern.accepts.Goals as goal

pub search-requires-clause-start_in_bounds : goal.search-requires-clause-start_in_bounds
search-requires-clause-start_in_bounds c = caret-there c.args.pattern.now c.if-pattern-eq-CARET.true

pub returns-then-pattern-eq-CARET : goal.returns-then-pattern-eq-CARET
returns-then-pattern-eq-CARET c = with-caret c.args.pattern.now c.args.field.now _ c.search.result.anywhere c.if-pattern-eq-CARET.true c.search.ensures

pub returns-else-pattern-eq-CARET : goal.returns-else-pattern-eq-CARET
returns-else-pattern-eq-CARET c = no-caret c.args.pattern.now c.args.field.now c.search-else-pattern-eq-CARET.result.front _ c.if-pattern-eq-CARET.false c.search-else-pattern-eq-CARET.ensures
