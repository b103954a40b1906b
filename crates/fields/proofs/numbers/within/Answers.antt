-- `fields::numbers::within` meets its contract.
use native.Mathlib.Omega.{arith}
use Rattle.fields.proofs.NumberLaws.{low-within, high-within}
use Rattle.fields.proofs.numbers.within.Goals as goal

pub returns-then-v : goal.returns-then-v
returns-then-v c = low-within c.args.v c.args.low c.args.high (omega arith) (omega arith)

pub returns : goal.returns
returns c = high-within c.args.v (omega arith) (omega arith) c.args.low c.args.high (omega arith)
