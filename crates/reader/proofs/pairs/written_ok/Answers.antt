-- `reader::pairs::written_ok` meets its contract.
use native.Mathlib.Omega.{arith}
use Rattle.definitions.specs.Bytes.{onward}
use Rattle.definitions.specs.Reading.{written_of}
use Rattle.reader.proofs.PairLaws.{written-yes, written-no, written-above}
use Rattle.reader.proofs.pairs.written_ok.Goals as goal

pub returns-in-0-to-5 : goal.returns-in-0-to-5
unfolding written_of onward
returns-in-0-to-5 c = written-yes 0 6 c.args.code tt (omega arith) (omega arith)

pub returns-in-0-to-5-2 : goal.returns-in-0-to-5-2
unfolding written_of onward
returns-in-0-to-5-2 c = written-yes 9 5 c.args.code tt (omega arith) (omega arith)

pub returns-in_default : goal.returns-in_default
unfolding written_of onward
returns-in_default c = written-no 6 3 c.args.code tt (omega arith) (omega arith)

pub returns-in_default-2 : goal.returns-in_default-2
returns-in_default-2 c = written-above c.args.code (omega arith)
