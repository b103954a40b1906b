-- `codes::datatype` meets its contract, arm by arm. Assumes nothing.
use native.Mathlib.Omega.{arith}
use mathlib.Core.Logic.{inl, inr}
use Rattle.codes.proofs.CodeLaws.{literal-code, other-code}
use Rattle.codes.proofs.datatype.Goals as goal

pub returns-in-2-to-5 : goal.returns-in-2-to-5
returns-in-2-to-5 c = literal-code _ (omega arith) (omega arith)

pub returns-in_default : goal.returns-in_default
returns-in_default c = other-code _ (inl (omega arith))

pub returns-in_default-2 : goal.returns-in_default-2
returns-in_default-2 c = other-code _ (inr (omega arith))
