-- The loop: what is left to step over, from where it stands, ends where all ends.
use Prim.Native.Nat.{◌+◌, ◌-◌}
use native.Mathlib.Omega.{arith}
use mathlib.Core.Path.{◌≡◌, ap₂, ◌∙◌, sym}
use lib.ListN.{length}
use Rattle.definitions.specs.Bytes.{byte}
use Rattle.laws.specs.Ends.{after_in, after_all, end_at}
use Rattle.ends.proofs.ExtentLaws.{widths}
use Rattle.ends.proofs.EndLaws.{all-on, all-off}
use Rattle.ends.proofs.end_at.Goals as goal

pub overflow_add-end : goal.overflow_add-end
overflow_add-end c = omega (arith, c.width.ensures, widths (byte c.args.script.now c.args.at))

pub loop-child-init : goal.loop-child-init
unfolding end_at
loop-child-init c =
    let e : c.children-child-end.result - 0 ≡ c.children-child-end.result = omega arith in
    ap₂ (λ n w. after_all (after_in c.args.ends.now (length c.args.script.now)) n (c.args.at + w)) (sym (e ∙ c.children-child-end.ensures)) (sym c.width.ensures)

pub loop-child-preserved : goal.loop-child-preserved
loop-child-preserved c = c.loop-child.invariant ∙ all-on _ _ _ _ _ (omega arith) c.after-end.ensures

pub returns : goal.returns
returns c = sym (c.loop-child.invariant ∙ all-off _ _ _ (omega arith))
