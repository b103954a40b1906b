-- `patterns::pieces_ok` meets its contract.
use native.Mathlib.Omega.{arith}
use Prim.Native.Nat.{◌-◌}
use mathlib.Core.Path.{sym, ◌∙◌}
use Rattle.definitions.specs.Bytes.{part}
use Rattle.patterns.proofs.FieldLaws.{pieces-from, pieces-zero, pieces_end, pieces-bad, pieces-turn, pieces-done}
use Rattle.patterns.proofs.pieces_ok.Goals as goal

pub loop-i-init : goal.loop-i-init
loop-i-init c = pieces-from (part c.args.s.now c.args.from (c.args.end - c.args.from))

pub returns-then-b-eq0 : goal.returns-then-b-eq0
returns-then-b-eq0 c =
    c.zeros.ensures ∙ sym (c.loop-i.invariant ∙ pieces-zero c.args.s.now c.loop-i.i c.args.end c.loop-i.atom (omega arith) (omega arith) c.if-b-eq0.true)

pub returns-then-b-eq36 : goal.returns-then-b-eq36
returns-then-b-eq36 c =
    c.zeros-then-b-eq36.ensures ∙ sym (c.loop-i.invariant ∙ pieces_end c.args.s.now c.loop-i.i c.args.end c.loop-i.atom (omega arith) (omega arith) c.if-b-eq36.true)

pub returns-then-not-may_follow : goal.returns-then-not-may_follow
returns-then-not-may_follow c =
    sym (c.loop-i.invariant ∙ pieces-bad c.args.s.now c.loop-i.i c.args.end c.loop-i.atom (omega arith) (omega arith) c.if-b-eq0.false c.if-b-eq36.false
    (sym c.may_follow.ensures ∙ c.if-not-may_follow.true))

pub loop-i-preserved : goal.loop-i-preserved
loop-i-preserved c =
    c.loop-i.invariant ∙ pieces-turn c.args.s.now c.loop-i.i c.args.end c.loop-i.atom (omega arith) (omega arith) c.if-b-eq0.false c.if-b-eq36.false
    (sym c.may_follow.ensures ∙ c.if-not-may_follow.false)

pub returns : goal.returns
returns c = sym (c.loop-i.invariant ∙ pieces-done c.args.s.now c.loop-i.i c.args.end c.loop-i.atom (omega arith))
