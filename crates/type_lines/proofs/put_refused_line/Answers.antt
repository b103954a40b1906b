-- The line of a refusal.
use native.Mathlib.Omega.{arith}
use Rattle.definitions.specs.Ascii.{ascii}
use Rattle.output.proofs.WritingLaws.{written_as, written_then}
use Rattle.type_lines.proofs.Texts.{refused-text}
use Rattle.type_lines.proofs.put_refused_line.Goals as goal

pub returns : goal.returns
unfolding ascii
returns c = record {
  written = written_as (written_then (written_then c.put_text-a.ensures c.put_number-b.ensures.written (omega arith)) c.put_byte.ensures (omega arith))
      (refused-text c.args.n);
  upper_bound = omega (arith, c.put_text-a.ensures.end, c.put_number-b.ensures.upper_bound, c.put_byte.ensures.end);
}
