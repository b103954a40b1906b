-- By the code: 0, or another.
use native.Mathlib.Omega.{arith}
use Rattle.type_lines.proofs.Texts.{counts-one}
use Rattle.type_lines.proofs.one_if.Goals as goal

pub returns-else-code-eq0 : goal.returns-else-code-eq0
returns-else-code-eq0 c = record { value = counts-one _ c.if-code-eq0.false; upper_bound = omega arith }
