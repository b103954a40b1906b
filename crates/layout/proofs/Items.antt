-- Items tested and read one after the other: what a loop over them has done and has still to do.
use Prim.Native.Nat.{ℕ, zero, suc, ◌+◌, ◌-◌, ◌*◌, ◌≤◌, ◌<◌}
use native.Mathlib.Omega.{arith}
use native.Mathlib.Numerals.{add-one}
use mathlib.Core.Path.{◌≡◌, ap, sym, ◌∙◌}
use mathlib.Core.List.{List, ◌∷◌}
use mathlib.Core.Bool.{true, false, ◌&&◌}
use lib.Dec.{eqb, leb}
use borrow.Author.Tests.{le-leb, lt-leb, eq-eqb, ne_eqb}
use lib.ListN.{set}
use Rattle.definitions.specs.Bytes.{byte}
use Rattle.definitions.specs.Exports.{item_at, items_from, items_good}
use Rattle.definitions.specs.declared.SavedItem.{SavedItem}

module _ (b : List ℕ) where
  -- ── the test of each item in use ──────────────────────────────────────────────────────────

  -- so far all have passed
  module _ (height at i : ℕ) (h : i < height) (far : items_good height b at ≡ items_good (height - i) b (at + 12 * i)) where
    here : items_good height b at
        ≡ leb (byte b (at + 12 * i + 2)) 1 && (eqb (byte b (at + 12 * i + 3)) 0 && items_good (height - (i + 1)) b (at + 12 * (i + 1)))
    unfolding items_good
    here =
        let e : height - i ≡ suc (height - (i + 1)) = omega arith in
        let k : at + 12 * (i + 1) ≡ at + 12 * i + 12 = omega arith in
        far ∙ rw (e, k)

    -- the item passes too: the rest decides
    pub good-next : byte b (at + 12 * i + 2) ≤ 1 → byte b (at + 12 * i + 3) ≡ 0
        → items_good height b at ≡ items_good (height - (i + 1)) b (at + 12 * (i + 1))
    good-next m z = here ∙ rw (le-leb (byte b (at + 12 * i + 2)) 1 m, eq-eqb (byte b (at + 12 * i + 3)) 0 z)

    -- its mark does not, or the byte after it
    pub good-mark : 1 < byte b (at + 12 * i + 2) → false ≡ items_good height b at
    good-mark m = sym (here ∙ rw (lt-leb (byte b (at + 12 * i + 2)) 1 m))

    pub good-zero : byte b (at + 12 * i + 2) ≤ 1 → (byte b (at + 12 * i + 3) ≡ 0 → ⊥) → false ≡ items_good height b at
    good-zero m z = sym (here ∙ rw (le-leb (byte b (at + 12 * i + 2)) 1 m, ne_eqb (byte b (at + 12 * i + 3)) 0 z))

  -- none is left
  pub good_none : (height at i : ℕ) → height ≤ i → items_good height b at ≡ items_good (height - i) b (at + 12 * i) → true ≡ items_good height b at
  unfolding items_good
  good_none height at i h far = let e : height - i ≡ 0 = omega arith in sym (far ∙ rw e)

  -- ── the items in use, then zeros ──────────────────────────────────────────────────────────

  -- the next item takes its place
  set-item : (left i at : ℕ) → i < left → set (items_from left i b at) i (item_at b (at + 12 * i)) ≡ items_from left (suc i) b at
  unfolding items_from
  set-item zero i at h = absurd (omega arith)
  set-item (suc left) zero at h =
      let e : at + 12 * 0 ≡ at = omega arith in
      ap (λ (n : ℕ). item_at b n ∷ items_from left 0 b (at + 12)) e
  set-item (suc left) (suc i) at h =
      let e : at + 12 * suc i ≡ at + 12 + 12 * i = omega arith in
      ap (λ (n : ℕ). item_at b at ∷ set (items_from left i b (at + 12)) i (item_at b n)) e
      ∙ ap (λ (l : List SavedItem). item_at b at ∷ l) (set-item left i (at + 12) (omega arith))

  pub items-next : (items : List SavedItem) (item : SavedItem) (left i at : ℕ) → i < left → items ≡ items_from left i b at
      → item ≡ item_at b (at + 12 * i) → set items i item ≡ items_from left (i + 1) b at
  items-next items item left i at h e k =
      (λ j. set (e j) i (k j)) ∙ (set-item left i at h ∙ ap (λ (n : ℕ). items_from left n b at) (sym (add-one i)))
