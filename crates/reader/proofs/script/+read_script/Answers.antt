-- `reader::script::read_script` meets its contract.
use native.Mathlib.Omega.{arith}
use mathlib.Core.Path.{◌∙◌}
use Rattle.laws.proofs.Reading.{script-is, script-others}
use Rattle.laws.proofs.ReadAnswers.{none-ends, leaf-ends, two_ends, two-fails}
use Rattle.reader.proofs.ReadLaws.{script-gone, block-fails, block-is}
use Rattle.reader.proofs.script.+read_script.Goals as goal

pub returns-in_err-kind_at : goal.returns-in_err-kind_at
returns-in_err-kind_at t c = c.from_residual.ensures ∙ script-gone _ _ _ _ c.in_err-kind_at.ensures.none

pub returns-in_err-second-in-114 : goal.returns-in_err-second-in-114
returns-in_err-second-in-114 t c = let h = c.in_ok-kind_at.ensures.some in
    c.from_residual-in_err-second-in-114.ensures ∙ two-fails _ _ _ _ (script-is _ _ _ _ (omega arith) 0x72 (omega arith)) c.read_name.ensures c.in_err-second-in-114.was

pub returns-in_default : goal.returns-in_default
returns-in_default t c =
    let h = c.in_ok-kind_at.ensures.some in block-fails _ _ _ _ (script-is _ _ _ _ (omega arith) 0x73 (omega arith)) c.block_ok.ensures c.if-block_ok.false

pub returns-in_err-second-in-115 : goal.returns-in_err-second-in-115
returns-in_err-second-in-115 t c =
    let h = c.in_ok-kind_at.ensures.some in let b = block-is _ _ _ _ (script-is _ _ _ _ (omega arith) 0x73 (omega arith)) c.block_ok.ensures c.if-block_ok.true in c.from_residual-in_err-second-in-115.ensures ∙ two-fails _ _ _ _ b.1 c.read_query.ensures c.in_err-second-in-115.was

pub returns-in_err-second-in-116 : goal.returns-in_err-second-in-116
returns-in_err-second-in-116 t c = let h = c.in_ok-kind_at.ensures.some in
    c.from_residual-in_err-second-in-116.ensures ∙ two-fails _ _ _ _ (script-is _ _ _ _ (omega arith) 0x74 (omega arith)) c.read_script-in-116.ensures c.in_err-second-in-116.was

pub returns-in-113 : goal.returns-in-113
returns-in-113 t c = let h = c.in_ok-kind_at.ensures.some in
    leaf-ends (script-is _ _ _ _ (omega arith) 0x71 (omega arith))

pub returns-in_ok-second-in-114 : goal.returns-in_ok-second-in-114
returns-in_ok-second-in-114 t c = let h = c.in_ok-kind_at.ensures.some in
    two_ends _ _ _ _ (script-is _ _ _ _ (omega arith) 0x72 (omega arith)) c.read_name.ensures
    c.in_ok-second-in-114.was c.read_script.ensures

pub returns-in_ok-second-in-115 : goal.returns-in_ok-second-in-115
returns-in_ok-second-in-115 t c =
    let h = c.in_ok-kind_at.ensures.some in let b = block-is _ _ _ _ (script-is _ _ _ _ (omega arith) 0x73 (omega arith)) c.block_ok.ensures c.if-block_ok.true in two_ends _ _ _ _ b.1 c.read_query.ensures c.in_ok-second-in-115.was c.read_script-in-115.ensures

pub returns-in_ok-second-in-116 : goal.returns-in_ok-second-in-116
returns-in_ok-second-in-116 t c = let h = c.in_ok-kind_at.ensures.some in
    two_ends _ _ _ _ (script-is _ _ _ _ (omega arith) 0x74 (omega arith)) c.read_script-in-116.ensures
    c.in_ok-second-in-116.was c.read_script-in-116-2.ensures

pub returns-in_default-2 : goal.returns-in_default-2
returns-in_default-2 t c =
    let h = c.in_ok-kind_at.ensures.some in none-ends (script-others _ _ _ _ (omega arith) ((((tt, λ e. omega arith), λ e. omega arith), λ e. omega arith), λ e. omega arith))
