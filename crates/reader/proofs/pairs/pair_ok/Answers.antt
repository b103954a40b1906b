-- A pair that is used, or one that is not.
use borrow.Author.Tests.{lt-ltb, le-ltb, ne_eqb}
use Rattle.reader.specs.Pairs.{pair_ok}
use Rattle.reader.proofs.pairs.pair_ok.Goals as goal

pub returns-then-variable-lt-VARIABLE_LIMIT : goal.returns-then-variable-lt-VARIABLE_LIMIT
unfolding pair_ok
returns-then-variable-lt-VARIABLE_LIMIT c = rw (c.if-used.true, lt-ltb _ _ c.if-variable-lt-VARIABLE_LIMIT.true) c.written_ok.ensures

pub returns-else-variable-lt-VARIABLE_LIMIT : goal.returns-else-variable-lt-VARIABLE_LIMIT
unfolding pair_ok
returns-else-variable-lt-VARIABLE_LIMIT c = rw (c.if-used.true, le-ltb _ _ c.if-variable-lt-VARIABLE_LIMIT.false)

pub returns-then-variable-eq0 : goal.returns-then-variable-eq0
unfolding pair_ok
returns-then-variable-eq0 c = rw (c.if-used.false, c.if-variable-eq0.true)

pub returns-else-variable-eq0 : goal.returns-else-variable-eq0
unfolding pair_ok
returns-else-variable-eq0 c = rw (c.if-used.false, ne_eqb _ _ c.if-variable-eq0.false)
