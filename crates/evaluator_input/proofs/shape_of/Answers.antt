-- A law of InputLaws for each shape.
use native.Mathlib.Omega.{arith}
use Rattle.evaluator_input.proofs.InputLaws.{too_long, cut-before, cut-within, whole}
use Rattle.evaluator_input.proofs.shape_of.Goals as goal

pub returns-then-n-gt-INPUT_LIMIT : goal.returns-then-n-gt-INPUT_LIMIT
returns-then-n-gt-INPUT_LIMIT c = too_long _ c.if-n-gt-INPUT_LIMIT.true

pub returns-then-n-lt-HEAD_WIDTH : goal.returns-then-n-lt-HEAD_WIDTH
returns-then-n-lt-HEAD_WIDTH c = cut-before _ c.if-n-gt-INPUT_LIMIT.false (omega (arith, c.if-n-lt-HEAD_WIDTH.true))

pub returns-then-n-tuples : goal.returns-then-n-tuples
returns-then-n-tuples c =
    cut-before _ c.if-n-gt-INPUT_LIMIT.false (omega (arith, c.starts_in-parts.ensures.table_value, c.if-n-tuples.true))

pub returns-then-n-tuples-ne0 : goal.returns-then-n-tuples-ne0
returns-then-n-tuples-ne0 c =
    cut-within _ c.if-n-gt-INPUT_LIMIT.false c.if-n-tuples.false (omega (arith, c.starts_in-parts.ensures.table_value)) c.if-n-tuples-ne0.true

pub returns : goal.returns
returns c =
    whole _ c.if-n-gt-INPUT_LIMIT.false c.if-n-tuples.false (omega (arith, c.starts_in-parts.ensures.table_value)) c.if-n-tuples-ne0.false
