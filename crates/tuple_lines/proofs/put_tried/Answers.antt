-- Bad, or truth and count.
use native.Mathlib.Omega.{arith}
use Rattle.definitions.specs.Printer.{line}
use Rattle.definitions.specs.Ascii.{ascii}
use Rattle.output.proofs.WritingLaws.{written_as, written_then}
use Rattle.tuple_lines.proofs.LineLaws.{bad-line, good-line}
use Rattle.tuple_lines.proofs.put_tried.Goals as goal

pub returns-in_default : goal.returns-in_default
unfolding ascii line
returns-in_default c = record { written = written_as c.put_text.ensures (bad-line _ c.in_default.is); upper_bound = omega (arith, c.put_text.ensures.end) }

pub returns : goal.returns
returns c = record { written = written_as (written_then (written_then c.put_truth-a.ensures.written c.put_number-b.ensures.written (omega arith)) c.put_byte.ensures (omega arith)) (good-line _ _ c.in-Some.is); upper_bound = omega (arith, c.put_truth-a.ensures.upper_bound, c.put_number-b.ensures.upper_bound, c.put_byte.ensures.end) }
