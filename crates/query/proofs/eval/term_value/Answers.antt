-- `query::eval::term_value` meets its contract: the slot that it reads is the term's. Assumes nothing.
use native.Mathlib.Omega.{arith}
use Rattle.query.proofs.TermLaws.{few, past_value, fits, slot-value}
use Rattle.query.proofs.eval.term_value.Goals as goal

pub clock_value-requires : goal.clock_value-requires
clock_value-requires c = c.requires.told.clocked

pub returns-then-context-code : goal.returns-then-context-code
returns-then-context-code c = past_value _ _ _ c.requires.tabled.1 _ c.if-context-code.true c.clock_value.ensures

pub overflow_mul-from : goal.overflow_mul-from
overflow_mul-from c = omega (arith, few _ _ _ c.requires.tabled.1, c.if-context-code.false)

pub value_at-requires : goal.value_at-requires
value_at-requires c = fits _ _ _ c.requires.tabled.1 _ c.if-context-code.false

pub returns : goal.returns
returns c = slot-value _ _ _ c.requires.tabled.1 _ c.if-context-code.false c.value_at.ensures
