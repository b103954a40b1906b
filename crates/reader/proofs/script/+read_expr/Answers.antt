-- `reader::script::read_expr` meets its contract.
use native.Mathlib.Omega.{arith}
use mathlib.Core.Path.{refl, ◌∙◌}
use mathlib.Core.Logic.{⊎_elim}
use Rattle.laws.proofs.Ranges.{either}
use Rattle.laws.proofs.Reading.{expr-is, expr-gap, expr-above, expr-either}
use Rattle.laws.proofs.ReadAnswers.{none-ends, leaf-ends, one-ends, two_ends, two-fails}
use Rattle.definitions.specs.Reading.{ExprShape}
use Rattle.reader.proofs.ReadLaws.{expr-gone}
use Rattle.reader.proofs.script.+read_expr.Goals as goal

pub returns-in_err-kind_at : goal.returns-in_err-kind_at
returns-in_err-kind_at t c = c.from_residual.ensures ∙ expr-gone _ _ _ _ c.in_err-kind_at.ensures.none

pub returns-in_err-second-in-68-to-69 : goal.returns-in_err-second-in-68-to-69
returns-in_err-second-in-68-to-69 t c = let h = c.in_ok-kind_at.ensures.some in
    c.from_residual-in_err-second-in-68-to-69.ensures ∙ two-fails _ _ _ _ (expr-either _ _ _ _ (omega arith) 0x44 (omega arith) (omega arith) ExprShape.two refl refl).1 c.read_expr-in-68-to-69.ensures c.in_err-second-in-68-to-69.was

pub returns-in-65 : goal.returns-in-65
returns-in-65 t c = let h = c.in_ok-kind_at.ensures.some in
    leaf-ends (expr-is _ _ _ _ (omega arith) 0x41 (omega arith))

pub returns-in-49-to-50 : goal.returns-in-49-to-50
returns-in-49-to-50 t c = let h = c.in_ok-kind_at.ensures.some in
    ⊎_elim (λ k. one-ends _ _ (expr-is _ _ _ _ (omega arith) 0x31 k) c.read_name.ensures)
    (λ k. one-ends _ _ (expr-is _ _ _ _ (omega arith) 0x32 k) c.read_name.ensures) (either 0x31 (omega arith) (omega arith))

pub returns-in-66-to-67 : goal.returns-in-66-to-67
returns-in-66-to-67 t c = let h = c.in_ok-kind_at.ensures.some in
    one-ends _ _ (expr-either _ _ _ _ (omega arith) 0x42 (omega arith) (omega arith) ExprShape.one refl refl).1 c.read_expr.ensures

pub returns-in_ok-second-in-68-to-69 : goal.returns-in_ok-second-in-68-to-69
returns-in_ok-second-in-68-to-69 t c = let h = c.in_ok-kind_at.ensures.some in
    two_ends _ _ _ _ (expr-either _ _ _ _ (omega arith) 0x44 (omega arith) (omega arith) ExprShape.two refl refl).1 c.read_expr-in-68-to-69.ensures
    c.in_ok-second-in-68-to-69.was c.read_expr-in-68-to-69-2.ensures

pub returns-in_default : goal.returns-in_default
returns-in_default t c = let h = c.in_ok-kind_at.ensures.some in
    none-ends (expr-gap _ _ _ _ (omega arith) 0 0x31 (omega arith) (omega arith) tt)

pub returns-in_default-2 : goal.returns-in_default-2
returns-in_default-2 t c = let h = c.in_ok-kind_at.ensures.some in
    none-ends (expr-gap _ _ _ _ (omega arith) 0x33 14 (omega arith) (omega arith) tt)

pub returns-in_default-3 : goal.returns-in_default-3
returns-in_default-3 t c = let h = c.in_ok-kind_at.ensures.some in
    none-ends (expr-above _ _ _ _ (omega arith) 0x46 (omega arith) tt)
