-- By what holds.
use native.Mathlib.Omega.{arith}
use Rattle.definitions.specs.Ascii.{ascii}
use Rattle.output.proofs.WritingLaws.{written_as}
use Rattle.tuple_lines.proofs.LineLaws.{truth-text}
use Rattle.tuple_lines.proofs.put_truth.Goals as goal

pub returns-then-holds : goal.returns-then-holds
unfolding ascii
returns-then-holds c = record { written = written_as c.put_text.ensures (truth-text _ _ c.if-holds.true); upper_bound = omega (arith, c.put_text.ensures.end) }

pub returns : goal.returns
unfolding ascii
returns c = record { written = written_as c.put_text-2.ensures (truth-text _ _ c.if-holds.false); upper_bound = omega (arith, c.put_text-2.ensures.end) }
