-- `patterns::range_ok` meets its contract.
use native.Mathlib.Omega.{arith}
use Prim.Native.Nat.{◌+◌}
use mathlib.Core.Bool.{Bool, ◌&&◌}
use mathlib.Core.Path.{sym, ap, ◌∙◌}
use Rattle.patterns.proofs.FieldLaws.{star-alone, tag-begins, tag-zero, tag-end, tag-bad, tag-turn, tag-done}
use Rattle.patterns.proofs.range_ok.Goals as goal

pub returns-then-s-at-eq42 : goal.returns-then-s-at-eq42
returns-then-s-at-eq42 c =
    c.zeros.ensures ∙ sym (star-alone c.args.s.now c.args.at c.requires c.if-s-at-eq42.true)

pub loop-i-init : goal.loop-i-init
loop-i-init c = tag-begins c.args.s.now c.args.at c.requires c.if-s-at-eq42.false

pub returns-then-b-eq0 : goal.returns-then-b-eq0
returns-then-b-eq0 c =
    ap (λ (t : Bool). c.loop-i.letter && t) c.zeros-then-b-eq0.ensures
    ∙ sym (c.loop-i.invariant ∙ tag-zero c.args.s.now c.loop-i.i (c.args.at + 8) c.loop-i.letter c.loop-i.hyphen (omega arith) (omega arith) c.if-b-eq0.true)

pub returns-then-b-eq42 : goal.returns-then-b-eq42
returns-then-b-eq42 c =
    ap (λ (t : Bool). (c.loop-i.letter && c.loop-i.hyphen) && t) c.zeros-then-b-eq42.ensures
    ∙ sym (c.loop-i.invariant ∙ tag-end c.args.s.now c.loop-i.i (c.args.at + 8) c.loop-i.letter c.loop-i.hyphen (omega arith) (omega arith) c.if-b-eq42.true)

pub returns-then-not-tag_byte : goal.returns-then-not-tag_byte
returns-then-not-tag_byte c =
    sym (c.loop-i.invariant ∙ tag-bad c.args.s.now c.loop-i.i (c.args.at + 8) c.loop-i.letter c.loop-i.hyphen (omega arith) (omega arith) c.if-b-eq0.false
    c.if-b-eq42.false (sym c.tag_byte.ensures ∙ c.if-not-tag_byte.true))

pub loop-i-preserved : goal.loop-i-preserved
loop-i-preserved c =
    c.loop-i.invariant ∙ tag-turn c.args.s.now c.loop-i.i (c.args.at + 8) c.loop-i.letter c.loop-i.hyphen (omega arith) (omega arith) c.if-b-eq0.false c.if-b-eq42.false
    (sym c.tag_byte.ensures ∙ c.if-not-tag_byte.false)

pub returns : goal.returns
returns c =
    sym (c.loop-i.invariant ∙ tag-done c.args.s.now c.loop-i.i (c.args.at + 8) c.loop-i.letter c.loop-i.hyphen (omega arith))
