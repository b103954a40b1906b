-- The line of its number.
use mathlib.Core.Path.{ap}
use Rattle.output.proofs.WritingLaws.{written_as}
use Rattle.type_lines.specs.Lines.{refused_line}
use Rattle.type_lines.proofs.put_refused.Goals as goal

pub returns : goal.returns
returns c = record {
  written = written_as c.put_refused_line.ensures.written (ap refused_line c.number.ensures);
  upper_bound = c.put_refused_line.ensures.upper_bound;
}
