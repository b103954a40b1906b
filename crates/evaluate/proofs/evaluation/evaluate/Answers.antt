-- By the shape of the input: what is too long, what is cut off, and else what its parts come to.
use native.Mathlib.Omega.{arith}
use Rattle.definitions.specs.Ascii.{ascii}
use Rattle.definitions.specs.Printer.{line}
use Rattle.output.proofs.WritingLaws.{written_as}
use Rattle.evaluate.proofs.EvaluationLaws.{too_long, cut_off, whole-short, whole-uncut}
use Rattle.evaluate.proofs.evaluation.evaluate.Goals as goal

pub put_whole-requires : goal.put_whole-requires
put_whole-requires c = record { input_len_bound = whole-short _ c.shape_of.ensures c.in-Whole.is; input_value = whole-uncut _ c.shape_of.ensures c.in-Whole.is; out_len = c.requires }

pub returns-in-TooLong : goal.returns-in-TooLong
unfolding ascii line
returns-in-TooLong c = record { written = written_as c.put_text.ensures (too_long _ c.shape_of.ensures c.in-TooLong.is); upper_bound = omega (arith, c.put_text.ensures.end, c.requires) }

pub returns-in-CutOff : goal.returns-in-CutOff
unfolding ascii line
returns-in-CutOff c = record { written = written_as c.put_text-in-CutOff.ensures (cut_off _ c.shape_of.ensures c.in-CutOff.is); upper_bound = omega (arith, c.put_text-in-CutOff.ensures.end, c.requires) }

pub returns-in-Whole : goal.returns-in-Whole
returns-in-Whole c = record { written = c.put_whole.ensures.written; upper_bound = c.put_whole.ensures.upper_bound }
