-- By the code: 0, or another.
use native.Mathlib.Omega.{arith}
use Rattle.output.proofs.WritingLaws.{written_none, written_as}
use Rattle.type_lines.proofs.Texts.{no_line, a-line}
use Rattle.type_lines.proofs.put_bound.Goals as goal

pub returns-then-code-eq0 : goal.returns-then-code-eq0
returns-then-code-eq0 c = record { written = written_as (written_none _ _) (no_line _ _ c.if-code-eq0.true); upper_bound = omega arith }

pub returns : goal.returns
returns c = record { written = written_as c.put_variable.ensures.written (a-line _ _ c.if-code-eq0.false); upper_bound = c.put_variable.ensures.upper_bound }
