-- `output::put_text` meets its contract: of the text, the bytes before i are written, and nothing else has changed.
use native.Mathlib.Omega.{arith}
use Rattle.output.proofs.WritingLaws.{written_start, written_turn, written_whole}
use Rattle.output.proofs.put_text.Goals as goal

pub loop-i-init : goal.loop-i-init
loop-i-init c = written_start c.args.text.now c.args.out.now c.args.at

pub loop-i-preserved : goal.loop-i-preserved
loop-i-preserved c = written_turn _ _ _ _ _ c.loop-i-test.true (omega arith) (omega arith) c.loop-i.invariant

pub returns : goal.returns
returns c = written_whole _ _ _ _ _ c.loop-i-test.false c.loop-i.invariant
