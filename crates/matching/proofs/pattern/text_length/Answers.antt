-- `matching::pattern::text_length` meets its contract, by the laws of FieldLaws.
use native.Mathlib.Omega.{arith}
use Rattle.matching.proofs.FieldLaws.{rest_end, rest_out, counted-end, counted-more}
use Rattle.matching.proofs.pattern.text_length.Goals as goal

pub returns-then-b-eq0 : goal.returns-then-b-eq0
returns-then-b-eq0 c =
    counted-end c.args.field.now c.loop-i.i c.loop-i.invariant.0 (rest_end c.args.field.now c.loop-i.i (omega arith) c.if-b-eq0.true)

pub loop-i-preserved : goal.loop-i-preserved
loop-i-preserved c =
    (counted-more c.args.field.now c.loop-i.i c.loop-i.invariant.0 (omega arith) c.if-b-eq0.false, omega arith)

pub returns : goal.returns
returns c = omega (arith, counted-end c.args.field.now c.loop-i.i c.loop-i.invariant.0 (rest_out c.args.field.now c.loop-i.i (omega arith)))
