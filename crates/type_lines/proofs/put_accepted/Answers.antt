-- The count and the lines.
use native.Mathlib.Omega.{arith}
use Rattle.definitions.specs.Ascii.{ascii}
use Rattle.output.proofs.WritingLaws.{written_as, written_then}
use Rattle.type_lines.proofs.Texts.{accepted-text}
use Rattle.type_lines.proofs.put_accepted.Goals as goal

pub returns : goal.returns
unfolding ascii
returns c = record {
  written = written_as (written_then (written_then (written_then c.put_text-a.ensures c.put_number-b.ensures.written (omega arith)) c.put_byte-c.ensures (omega arith))
      c.put_lines.ensures.written (omega arith)) (accepted-text _ _ c.bound_ones.ensures);
  upper_bound = omega
      (arith, c.put_text-a.ensures.end, c.put_number-b.ensures.upper_bound, c.put_byte-c.ensures.end, c.put_lines.ensures.upper_bound);
}
