-- A refusal, or the types.
use Rattle.output.proofs.WritingLaws.{written_as}
use Rattle.type_lines.proofs.Texts.{refused-card, accepted-card}
use Rattle.type_lines.proofs.put_card.Goals as goal

pub returns-then-refusal-ne0 : goal.returns-then-refusal-ne0
returns-then-refusal-ne0 c = record {
  written = written_as c.put_refused_line.ensures.written (refused-card _ _ c.if-refusal-ne0.true);
  upper_bound = c.put_refused_line.ensures.upper_bound;
}

pub returns : goal.returns
returns c = record {
  written = written_as c.put_accepted.ensures.written (accepted-card _ _ c.if-refusal-ne0.false);
  upper_bound = c.put_accepted.ensures.upper_bound;
}
