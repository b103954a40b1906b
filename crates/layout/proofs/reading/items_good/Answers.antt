-- The loop: the items before `i` have passed the test, so the rest decides.
use Prim.Native.Nat.{◌-◌}
use native.Mathlib.Omega.{arith}
use mathlib.Core.Path.{◌≡◌, ap}
use Rattle.definitions.specs.Limits.{items_offset}
use Rattle.definitions.specs.Exports.{items_good}
use Rattle.layout.proofs.Items.{good-next, good-mark, good-zero, good_none}
use Rattle.layout.proofs.reading.items_good.Goals as goal

pub loop-i-init : goal.loop-i-init
loop-i-init c =
    let e : c.args.height ≡ c.args.height - 0 = omega arith in
    (ap (λ n. items_good n c.args.b.now items_offset) e)

pub returns-then-b-at-gt1 : goal.returns-then-b-at-gt1
returns-then-b-at-gt1 c =
    good-mark c.args.b.now _ _ _ (omega arith) c.loop-i.invariant c.if-b-at-gt1.true

pub returns-then-b-at-ne0 : goal.returns-then-b-at-ne0
returns-then-b-at-ne0 c =
    good-zero c.args.b.now _ _ _ (omega arith) c.loop-i.invariant c.if-b-at-gt1.false c.if-b-at-ne0.true

pub loop-i-preserved : goal.loop-i-preserved
loop-i-preserved c =
    (good-next c.args.b.now _ _ _ (omega arith) c.loop-i.invariant c.if-b-at-gt1.false c.if-b-at-ne0.false)

pub returns : goal.returns
returns c = good_none c.args.b.now _ _ _ (omega arith) c.loop-i.invariant
