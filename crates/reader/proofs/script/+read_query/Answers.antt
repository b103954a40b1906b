-- `reader::script::read_query` meets its contract.
use native.Mathlib.Omega.{arith}
use Rattle.laws.proofs.Reading.{query-is, query-gap, query-above, query-either}
use Rattle.laws.proofs.ReadAnswers.{none-ends, leaf-ends, one-ends, two_ends, two-fails, four-fails, four-fails₂, four-fails₃, four-ends}
use mathlib.Core.Path.{refl, ◌∙◌}
use Rattle.definitions.specs.Reading.{QueryShape}
use Rattle.reader.proofs.ReadLaws.{query-gone}
use Rattle.reader.proofs.script.+read_query.Goals as goal

pub returns-in_err-kind_at : goal.returns-in_err-kind_at
returns-in_err-kind_at t c = c.from_residual.ensures ∙ query-gone _ _ _ _ c.in_err-kind_at.ensures.none

pub returns-in_err-subject-in-97 : goal.returns-in_err-subject-in-97
returns-in_err-subject-in-97 t c = let h = c.in_ok-kind_at.ensures.some in
    c.from_residual-in_err-subject-in-97.ensures ∙ four-fails _ _ _ (query-is _ _ _ _ (omega arith) 0x61 (omega arith)) c.read_name.ensures c.in_err-subject-in-97.was

pub returns-in_err-property-in-97 : goal.returns-in_err-property-in-97
returns-in_err-property-in-97 t c = let h = c.in_ok-kind_at.ensures.some in
    c.from_residual-in_err-property-in-97.ensures ∙ four-fails₂ _ _ _ (query-is _ _ _ _ (omega arith) 0x61 (omega arith)) c.read_name.ensures c.in_ok-subject-in-97.was
    c.read_name-in-97.ensures c.in_err-property-in-97.was

pub returns-in_err-object-in-97 : goal.returns-in_err-object-in-97
returns-in_err-object-in-97 t c = let h = c.in_ok-kind_at.ensures.some in
    c.from_residual-in_err-object-in-97.ensures ∙ four-fails₃ _ _ _ (query-is _ _ _ _ (omega arith) 0x61 (omega arith)) c.read_name.ensures c.in_ok-subject-in-97.was
    c.read_name-in-97.ensures c.in_ok-property-in-97.was c.read_name-in-97-2.ensures c.in_err-object-in-97.was

pub returns-in_err-second-in-98-to-99 : goal.returns-in_err-second-in-98-to-99
returns-in_err-second-in-98-to-99 t c = let h = c.in_ok-kind_at.ensures.some in
    c.from_residual-in_err-second-in-98-to-99.ensures ∙ two-fails _ _ _ _ (query-either _ _ _ _ (omega arith) 0x62 (omega arith) (omega arith) QueryShape.two refl refl).1 c.read_query.ensures c.in_err-second-in-98-to-99.was

pub returns-in_ok-object-in-97 : goal.returns-in_ok-object-in-97
returns-in_ok-object-in-97 t c = let h = c.in_ok-kind_at.ensures.some in
    four-ends _ _ _ (query-is _ _ _ _ (omega arith) 0x61 (omega arith)) c.read_name.ensures c.in_ok-subject-in-97.was
    c.read_name-in-97.ensures c.in_ok-property-in-97.was c.read_name-in-97-2.ensures c.in_ok-object-in-97.was c.read_name-in-97-3.ensures

pub returns-in-100 : goal.returns-in-100
returns-in-100 t c = let h = c.in_ok-kind_at.ensures.some in
    one-ends _ _ (query-is _ _ _ _ (omega arith) 0x64 (omega arith)) c.read_cond.ensures

pub returns-in-101 : goal.returns-in-101
returns-in-101 t c = let h = c.in_ok-kind_at.ensures.some in
    leaf-ends (query-is _ _ _ _ (omega arith) 0x65 (omega arith))

pub returns-in_ok-second-in-98-to-99 : goal.returns-in_ok-second-in-98-to-99
returns-in_ok-second-in-98-to-99 t c = let h = c.in_ok-kind_at.ensures.some in
    two_ends _ _ _ _ (query-either _ _ _ _ (omega arith) 0x62 (omega arith) (omega arith) QueryShape.two refl refl).1 c.read_query.ensures
    c.in_ok-second-in-98-to-99.was c.read_query-in-98-to-99.ensures

pub returns-in_default : goal.returns-in_default
returns-in_default t c = let h = c.in_ok-kind_at.ensures.some in
    none-ends (query-gap _ _ _ _ (omega arith) 0 0x61 (omega arith) (omega arith) tt)

pub returns-in_default-2 : goal.returns-in_default-2
returns-in_default-2 t c = let h = c.in_ok-kind_at.ensures.some in
    none-ends (query-above _ _ _ _ (omega arith) 0x66 (omega arith) tt)
