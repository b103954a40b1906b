-- `patterns::zeros` meets its contract.
use native.Mathlib.Omega.{arith}
use mathlib.Core.Path.{sym, ap, ◌∙◌}
use Rattle.definitions.specs.Bytes.{all_zero}
use Rattle.patterns.proofs.FieldLaws.{part-done, zeros-turn, zeros-stop}
use Rattle.patterns.proofs.zeros.Goals as goal

pub returns-then-s-i-ne0 : goal.returns-then-s-i-ne0
returns-then-s-i-ne0 c =
    sym (c.loop-i.invariant ∙ zeros-stop c.args.s.now c.loop-i.i c.args.end (omega arith) (omega arith) c.if-s-i-ne0.true)

pub loop-i-preserved : goal.loop-i-preserved
loop-i-preserved c =
    c.loop-i.invariant ∙ zeros-turn c.args.s.now c.loop-i.i c.args.end (omega arith) (omega arith) c.if-s-i-ne0.false

pub returns : goal.returns
returns c = sym (c.loop-i.invariant ∙ ap all_zero (part-done c.args.s.now c.loop-i.i c.args.end (omega arith)))
