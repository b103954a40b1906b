-- Four texts, one after the other.
use native.Mathlib.Omega.{arith}
use Rattle.definitions.specs.Ascii.{ascii}
use Rattle.output.proofs.WritingLaws.{written_as, written_then}
use Rattle.type_lines.proofs.Texts.{line-text}
use Rattle.type_lines.proofs.put_variable.Goals as goal

pub returns : goal.returns
unfolding ascii
returns c = record {
  written = written_as (written_then
      (written_then (written_then c.put_number-a.ensures.written c.put_byte-b.ensures (omega (arith, c.requires))) c.put_type-c.ensures.written (omega (arith, c.requires)))
      c.put_byte.ensures (omega (arith, c.requires))) (line-text _ _);
  upper_bound = omega
      (arith, c.put_number-a.ensures.upper_bound, c.put_byte-b.ensures.end, c.put_type-c.ensures.upper_bound, c.put_byte.ensures.end);
}
