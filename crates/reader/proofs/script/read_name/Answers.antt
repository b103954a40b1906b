-- `reader::script::read_name` meets its contract.
use native.Mathlib.Omega.{arith}
use mathlib.Core.Path.{◌∙◌}
use Rattle.laws.proofs.Reading.{name-is, name-others, variable-is, variable-bad, variable-cut, constant-is, constant-bad, constant-cut}
use Rattle.laws.proofs.ReadAnswers.{none-ends, leaf-ends}
use Rattle.reader.proofs.ReadLaws.{name-gone}
use Rattle.reader.proofs.script.read_name.Goals as goal

pub returns-in_err-kind : goal.returns-in_err-kind
returns-in_err-kind c = c.from_residual.ensures ∙ name-gone _ _ _ _ c.in_err-kind.ensures.none

pub returns-in-49 : goal.returns-in-49
returns-in-49 c = let h = c.in_ok-kind.ensures.some in leaf-ends (name-is _ _ _ _ (omega arith) 0x31 (omega arith) ∙ variable-is c.args.script.now c.args.terms c.args.at (omega arith) (omega arith))

pub returns-in_default : goal.returns-in_default
returns-in_default c = let h = c.in_ok-kind.ensures.some in none-ends (name-is _ _ _ _ (omega arith) 0x31 (omega arith) ∙ variable-bad c.args.script.now c.args.terms c.args.at (omega arith) (omega arith))

pub returns-in_default-2 : goal.returns-in_default-2
returns-in_default-2 c = let h = c.in_ok-kind.ensures.some in none-ends (name-is _ _ _ _ (omega arith) 0x31 (omega arith) ∙ variable-cut c.args.script.now c.args.terms c.args.at (omega arith))

pub returns-in-50 : goal.returns-in-50
returns-in-50 c = let h = c.in_ok-kind.ensures.some in leaf-ends (name-is _ _ _ _ (omega arith) 0x32 (omega arith) ∙ constant-is c.args.script.now c.args.terms c.args.at (omega arith) (omega arith))

pub returns-in_default-3 : goal.returns-in_default-3
returns-in_default-3 c = let h = c.in_ok-kind.ensures.some in none-ends (name-is _ _ _ _ (omega arith) 0x32 (omega arith) ∙ constant-bad c.args.script.now c.args.terms c.args.at (omega arith) (omega arith))

pub returns-in_default-4 : goal.returns-in_default-4
returns-in_default-4 c = let h = c.in_ok-kind.ensures.some in none-ends (name-is _ _ _ _ (omega arith) 0x32 (omega arith) ∙ constant-cut c.args.script.now c.args.terms c.args.at (omega arith))

pub returns-in_default-5 : goal.returns-in_default-5
returns-in_default-5 c = let h = c.in_ok-kind.ensures.some in none-ends (name-others _ _ _ _ (omega arith) ((tt, λ e. omega arith), λ e. omega arith))
