-- The loop: the bytes before `i` are written, and `rest` is what is left of the number.
use Prim.Native.Nat.{◌/◌}
use native.Mathlib.Omega.{arith}
use mathlib.Core.Path.{◌≡◌, ap, ◌∙◌}
use borrow.Author.Rules.{rules}
use lib.ListN.{length}
use Rattle.definitions.specs.Bytes.{little_bytes}
use Rattle.laws.proofs.Writing.{put-none, put_all}
use Rattle.layout.proofs.NumberBytes.{after_next, little-next}
use Rattle.layout.proofs.writing.write_number.Goals as goal

pub loop-i-init : goal.loop-i-init
unfolding little_bytes
loop-i-init c = (search rules, search rules, put-none)

pub loop-i-preserved : goal.loop-i-preserved
loop-i-preserved c =
    let e = ap (λ r. r / 256) c.loop-i.invariant.1 ∙ after_next c.loop-i.i c.args.n in
    (search rules, e, little-next _ _ c.loop-i.invariant.1 c.loop-i.invariant.2 (omega arith))

pub returns : goal.returns
returns c =
    let e : c.loop-i.i ≡ length c.args.out.now = omega arith in
    put_all c.loop-i.invariant.2 (omega arith) ∙ ap (λ k. little_bytes k c.args.n) e
