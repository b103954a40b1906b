-- `reader::script::read_cond` meets its contract.
use native.Mathlib.Omega.{arith}
use Rattle.laws.proofs.Reading.{cond-is, cond-gap, cond_above, cond_either}
use Rattle.laws.proofs.ReadAnswers.{none-ends, leaf-ends, one-ends, two_ends, two-fails}
use Rattle.reader.proofs.ReadLaws.{cond-gone, body-short, body-fails, body-ends}
use mathlib.Core.Path.{refl, ◌∙◌}
use Rattle.definitions.specs.Reading.{CondShape}
use Rattle.reader.proofs.script.+read_cond.Goals as goal

pub returns-in_err-kind : goal.returns-in_err-kind
returns-in_err-kind t c = c.from_residual.ensures ∙ cond-gone _ _ _ _ c.in_err-kind.ensures.none

pub returns-in_default-2 : goal.returns-in_default-2
returns-in_default-2 t c = let h = c.in_ok-kind.ensures.some in
    body-short _ _ _ _ _ _ (cond-is _ _ _ _ (omega arith) 0x55 (omega arith)) (omega arith)

pub returns-in_default : goal.returns-in_default
returns-in_default t c = let h = c.in_ok-kind.ensures.some in
    body-fails _ _ _ _ _ _ (cond-is _ _ _ _ (omega arith) 0x55 (omega arith)) (omega arith) c.pattern_ok.ensures
    c.if-pattern_ok.false

pub returns-in_default-4 : goal.returns-in_default-4
returns-in_default-4 t c = let h = c.in_ok-kind.ensures.some in
    body-short _ _ _ _ _ _ (cond-is _ _ _ _ (omega arith) 0x56 (omega arith)) (omega arith)

pub returns-in_default-3 : goal.returns-in_default-3
returns-in_default-3 t c = let h = c.in_ok-kind.ensures.some in
    body-fails _ _ _ _ _ _ (cond-is _ _ _ _ (omega arith) 0x56 (omega arith)) (omega arith) c.range_ok.ensures
    c.if-range_ok.false

pub returns-in_err-second-in-82-to-83 : goal.returns-in_err-second-in-82-to-83
returns-in_err-second-in-82-to-83 t c = let h = c.in_ok-kind.ensures.some in
    c.from_residual-in_err-second-in-82-to-83.ensures ∙ two-fails _ _ _ _ (cond_either _ _ _ _ (omega arith) 0x52 (omega arith) (omega arith) CondShape.two refl refl).1 c.read_cond-in-82-to-83.ensures c.in_err-second-in-82-to-83.was

pub returns-in_err-second-in-87-to-88 : goal.returns-in_err-second-in-87-to-88
returns-in_err-second-in-87-to-88 t c = let h = c.in_ok-kind.ensures.some in
    c.from_residual-in_err-second-in-87-to-88.ensures ∙ two-fails _ _ _ _ (cond_either _ _ _ _ (omega arith) 0x57 (omega arith) (omega arith) CondShape.pair refl refl).1 c.read_expr-in-87-to-88.ensures c.in_err-second-in-87-to-88.was

pub returns-in-84 : goal.returns-in-84
returns-in-84 t c = let h = c.in_ok-kind.ensures.some in
    one-ends _ _ (cond-is _ _ _ _ (omega arith) 0x54 (omega arith)) c.read_cond.ensures

pub returns-in-85 : goal.returns-in-85
returns-in-85 t c = let h = c.in_ok-kind.ensures.some in
    body-ends _ _ _ _ _ _ (cond-is _ _ _ _ (omega arith) 0x55 (omega arith)) (omega arith) c.pattern_ok.ensures
    c.if-pattern_ok.true c.read_expr.ensures

pub returns-in-86 : goal.returns-in-86
returns-in-86 t c = let h = c.in_ok-kind.ensures.some in
    body-ends _ _ _ _ _ _ (cond-is _ _ _ _ (omega arith) 0x56 (omega arith)) (omega arith) c.range_ok.ensures
    c.if-range_ok.true c.read_expr-in-86.ensures

pub returns-in-80-to-81 : goal.returns-in-80-to-81
returns-in-80-to-81 t c = let h = c.in_ok-kind.ensures.some in
    leaf-ends (cond_either _ _ _ _ (omega arith) 0x50 (omega arith) (omega arith) CondShape.leaf refl refl).1

pub returns-in_ok-second-in-82-to-83 : goal.returns-in_ok-second-in-82-to-83
returns-in_ok-second-in-82-to-83 t c = let h = c.in_ok-kind.ensures.some in
    two_ends _ _ _ _ (cond_either _ _ _ _ (omega arith) 0x52 (omega arith) (omega arith) CondShape.two refl refl).1 c.read_cond-in-82-to-83.ensures
    c.in_ok-second-in-82-to-83.was c.read_cond-in-82-to-83-2.ensures

pub returns-in_ok-second-in-87-to-88 : goal.returns-in_ok-second-in-87-to-88
returns-in_ok-second-in-87-to-88 t c = let h = c.in_ok-kind.ensures.some in
    two_ends _ _ _ _ (cond_either _ _ _ _ (omega arith) 0x57 (omega arith) (omega arith) CondShape.pair refl refl).1 c.read_expr-in-87-to-88.ensures
    c.in_ok-second-in-87-to-88.was c.read_expr-in-87-to-88-2.ensures

pub returns-in_default-5 : goal.returns-in_default-5
returns-in_default-5 t c = let h = c.in_ok-kind.ensures.some in
    none-ends (cond-gap _ _ _ _ (omega arith) 0 0x50 (omega arith) (omega arith) tt)

pub returns-in_default-6 : goal.returns-in_default-6
returns-in_default-6 t c = let h = c.in_ok-kind.ensures.some in
    none-ends (cond_above _ _ _ _ (omega arith) 0x59 (omega arith) tt)
