-- One byte is set.
use native.Mathlib.Omega.{arith}
use Rattle.output.proofs.WritingLaws.{written_byte}
use Rattle.output.proofs.put_byte.Goals as goal

pub returns : goal.returns
returns c = written_byte _ _ _ (omega arith)
