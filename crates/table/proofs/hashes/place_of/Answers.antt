-- `table::hashes::place_of` meets its contract. The loop keeps the place in the list equal to that in the rest, from there on.
use native.Mathlib.Omega.{arith}
use Prim.Native.Nat.{◌+◌, ◌-◌, ◌<◌}
use mathlib.Core.Path.{◌≡◌, sym, ap, ◌∙◌}
use lib.ListN.{length, drop, length-take, length-drop}
use Rattle.std.specs.Prelude.{Some}
use Rattle.definitions.specs.Bytes.{part}
use Rattle.table.specs.Hashes.{place_in}
use Rattle.table.proofs.PlaceLaws.{place-inside, position_is, below-is, below-not, below-some, place_end, block_here, block-next}
use Rattle.table.proofs.hashes.place_of.Goals as goal

pub returns-in_err-k : goal.returns-in_err-k
returns-in_err-k c =
    let inside = place-inside c.args.x (part c.args.list.now c.loop-at.at (c.loop-at.at + c.min.result - c.loop-at.at)) (sym c.is_in.ensures ∙ c.if-is_in.true) in
    absurd (omega (arith, inside, below-not _ _ (c.first_in.ensures ∙ position_is c.args.x _) c.in_err-k.was))

pub returns-then-is_in : goal.returns-then-is_in
returns-then-is_in c =
    let list = c.args.list.now in
    let at = c.loop-at.at in
    let k = below-is _ _ (c.first_in.ensures ∙ position_is c.args.x _) c.in_ok-k.was in
    let place = block_here list c.args.x at c.loop-at.invariant.1 c.min.result c.is_in.ensures c.if-is_in.true in
    let here : at + c.in_ok-k.k ≡ place_in c.args.x list = omega (arith, k.0, place) in
    let inside : place_in c.args.x list < length list = omega (arith, k, place, length-take (at + c.min.result - at) (drop at list), length-drop at list) in
    ap Some here ∙ sym (below-some (length list) (place_in c.args.x list) inside)

pub loop-at-preserved : goal.loop-at-preserved
loop-at-preserved c = (
  omega (arith, c.min.ensures),
  block-next c.args.list.now c.args.x c.loop-at.at c.loop-at.invariant.1 c.min.result c.is_in.ensures
      (omega (arith, c.min.ensures)) c.if-is_in.false,
)

pub returns : goal.returns
returns c = place_end c.args.list.now c.args.x c.loop-at.at c.loop-at.invariant.1 c.loop-at-test.false
