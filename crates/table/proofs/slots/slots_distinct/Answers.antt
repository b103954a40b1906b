-- `table::slots::slots_distinct` meets its contract. The loop keeps that the terms from the last on are different, and that the places of their hashes are flagged.
use Prim.Native.Nat.{◌-◌, ◌<◌}
use native.Mathlib.Omega.{arith}
use mathlib.Core.Path.{refl, sym}
use Rattle.table.proofs.TableLaws.{holds-few, slots-again, slots_twice}
use Rattle.table.proofs.SeenLaws.{apart-start, apart-end, apart_next, not_seen}
use Rattle.table.proofs.PlaceLaws.{below-there, below-gone}
use Rattle.table.proofs.slots.slots_distinct.Goals as goal
use Rattle.table.proofs.slots.slots_distinct.Goals.{else-seen-place-via-then-seen-place+else-is_some, else-seen-place-via-else-seen-place}

pub loop-i-init : goal.loop-i-init
loop-i-init c = apart-start _ _ c.requires.holds_terms _

pub offset_bounds-hashes-i : goal.offset_bounds-hashes-i
offset_bounds-hashes-i c = omega (arith, c.loop-i.invariant.few, holds-few _ _ c.requires.holds_terms)

pub bounds-hashes-i : goal.bounds-hashes-i
bounds-hashes-i c =
    omega (arith, c.loop-i-test.true, c.loop-i.invariant.few, c.requires.hashes_len, holds-few _ _ c.requires.holds_terms)

pub slot_again-requires : goal.slot_again-requires
slot_again-requires c = record { holds_terms = c.requires.holds_terms; hashes_len = c.requires.hashes_len; hashed = c.requires.hashed; i_lt_n = omega (arith, c.loop-i-test.true, c.loop-i.invariant.few) }

pub returns-then-is_some : goal.returns-then-is_some
returns-then-is_some c =
    let i = c.loop-i.i - 1 in
    let l : i < c.args.n = omega (arith, c.loop-i.invariant.few) in
    let again = below-there _ _ c.slot_again.ensures c.is_some.ensures c.if-is_some.true in
    sym (slots_twice _ _ c.requires.holds_terms i (omega (arith, l)) (slots-again _ _ c.requires.holds_terms i l refl again))

pub loop-i-preserved : goal.loop-i-preserved
loop-i-preserved c =
    apart_next _ _ c.requires.holds_terms c.args.hashes.now _ _ c.loop-i.invariant c.loop-i-test.true _ c.number_index-place.ensures
    (elim c.else-seen-place.branch [
      | else-seen-place-via-then-seen-place+else-is_some w ↦ below-gone _ _ w.slot_again.ensures w.is_some.ensures w.if-is_some.false
      | else-seen-place-via-else-seen-place w ↦ omega (
        arith,
        not_seen _ _ c.requires.holds_terms c.args.hashes.now _ _ c.loop-i.invariant c.loop-i-test.true _ c.number_index-place.ensures (λ k. omega (arith, c.type_inv.table k))
            c.requires.hashes_len c.requires.hashed w.if-seen-place.false,
      )
    ])

pub returns : goal.returns
returns c = apart-end _ _ c.requires.holds_terms _ _ _ c.loop-i.invariant c.loop-i-test.false
