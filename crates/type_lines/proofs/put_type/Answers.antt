-- The datatype alone, or within `range(` and `)`.
use native.Mathlib.Omega.{arith}
use Rattle.definitions.specs.Ascii.{ascii}
use Rattle.output.proofs.WritingLaws.{written_as, written_then}
use Rattle.type_lines.proofs.Texts.{plain-text, range-text}
use Rattle.type_lines.proofs.put_type.Goals as goal

pub returns-then-code-lt9 : goal.returns-then-code-lt9
returns-then-code-lt9 c = record { written = written_as c.put_datatype.ensures.written (plain-text _ c.if-code-lt9.true); upper_bound = omega (arith, c.put_datatype.ensures.upper_bound) }

pub returns : goal.returns
unfolding ascii
returns c = record {
  written = written_as (written_then (written_then c.put_text-a.ensures c.put_datatype-b.ensures.written (omega (arith, c.requires))) c.put_byte.ensures (omega (arith, c.requires)))
      (range-text _ c.if-code-lt9.false);
  upper_bound = omega (arith, c.put_text-a.ensures.end, c.put_datatype-b.ensures.upper_bound, c.put_byte.ensures.end);
}
