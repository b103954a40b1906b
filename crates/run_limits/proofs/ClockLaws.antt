-- A signed number in two's complement.
use Prim.Native.Nat.{ℕ, zero, suc, ◌-◌, ◌^◌, ◌≤◌, ◌<◌}
use native.Mathlib.Omega.{arith}
use mathlib.Core.Path.{◌≡◌, refl, sym, ap, subst, ◌∙◌}
use mathlib.Core.Bool.{Bool, true, false}
use lib.Dec.{T}
use lib.IntN.{ℤ, pos, negsuc, nat_abs, ◌-ℤ◌}
use lib.Signed.{non_neg, le_z}
use borrow.Author.Tests.{lt-ltb, le-ltb, lt-leb, le-leb}
use mir.Syntax.{w64}
use mir.Val.{SFits, Fits, to_z, of_z}
use mir.Facts.{to_z-of_z}
use Rattle.definitions.specs.Bytes.{signed}

-- -1 less a number below 0
turned : (m : ℕ) → negsuc 0 -ℤ negsuc m ≡ pos m
turned zero = refl
turned (suc m) = rw (lt-leb (suc (suc (suc m))) 1 (omega arith)) (ap pos (omega arith))

high : (k : ℕ) → k < 2 ^ 63 → signed (18446744073709551615 - k) ≡ negsuc k
unfolding signed
high k h = rw (le-ltb (18446744073709551615 - k) (2 ^ 63) (omega arith)) (ap negsuc (omega arith))

module _ (n : ℤ) (fits : SFits w64 n) where
  same : to_z w64 (of_z w64 n) ≡ n
  same = to_z-of_z fits

  not-below : le_z (pos 0) (to_z w64 (of_z w64 n)) ≡ true → (m : ℕ) × (n ≡ pos m)
  not-below e = go n (sym (ap (le_z (pos 0)) same) ∙ e)
    where
      go : (n : ℤ) → le_z (pos 0) n ≡ true → (m : ℕ) × (n ≡ pos m)
      go (pos m) h = (m, refl)
      go (negsuc m) h = absurd (let z : ◌≡◌ {A = ℕ} 0 1 = cc in omega arith)

  below : le_z (pos 0) (to_z w64 (of_z w64 n)) ≡ false → (m : ℕ) × (n ≡ negsuc m)
  below e = go n (sym (ap (le_z (pos 0)) same) ∙ e)
    where
      go : (n : ℤ) → le_z (pos 0) n ≡ false → (m : ℕ) × (n ≡ negsuc m)
      go (pos m) h = absurd (let z : ◌≡◌ {A = ℕ} 0 1 = (let y : ◌≡◌ {A = Bool} true false = sym (le-leb 0 m (omega arith)) ∙ h in cc) in omega arith)
      go (negsuc m) h = (m, refl)

  -- ── from 0 on ─────────────────────────────────────────────────────────────────────────────

  module _ (e : le_z (pos 0) (to_z w64 (of_z w64 n)) ≡ true) where
    pub up_fits : T (non_neg (to_z w64 (of_z w64 n))) × Fits w64 (nat_abs (to_z w64 (of_z w64 n)))
    up_fits =
        let m = not-below e in
        let h = subst (SFits w64) m.1 fits in
        rw (same, m.1) (tt, record { fits = omega (arith, h.sfits) })

    pub up-signed : signed (nat_abs (to_z w64 (of_z w64 n))) ≡ n
    unfolding signed
    up-signed =
        let m = not-below e in
        let h = subst (SFits w64) m.1 fits in
        rw (same, m.1, lt-ltb m.0 (2 ^ 63) h.sfits) refl

  -- ── below 0 ───────────────────────────────────────────────────────────────────────────────

  module _ (e : le_z (pos 0) (to_z w64 (of_z w64 n)) ≡ false) where
    abbrev k : ℕ
    k = (below e).0

    small : k < 2 ^ 63
    small = (subst (SFits w64) (below e).1 fits).sfits

    distance : negsuc 0 -ℤ to_z w64 (of_z w64 n) ≡ pos k
    distance = ap (λ (z : ℤ). negsuc 0 -ℤ z) (same ∙ (below e).1) ∙ turned k

    pub down_fits : SFits w64 (negsuc 0 -ℤ to_z w64 (of_z w64 n))
    down_fits = subst (SFits w64) (sym distance) (record { sfits = small })

    again : to_z w64 (of_z w64 (negsuc 0 -ℤ to_z w64 (of_z w64 n))) ≡ pos k
    again = to_z-of_z down_fits ∙ distance

    pub down-cast : T (non_neg (to_z w64 (of_z w64 (negsuc 0 -ℤ to_z w64 (of_z w64 n))))) × Fits w64 (nat_abs (to_z w64 (of_z w64 (negsuc 0 -ℤ to_z w64 (of_z w64 n)))))
    down-cast = rw again (tt, record { fits = omega (arith, small) })

    pub down-most : nat_abs (to_z w64 (of_z w64 (negsuc 0 -ℤ to_z w64 (of_z w64 n)))) ≤ 18446744073709551615
    down-most = rw again (omega (arith, small))

    pub down-signed : signed (18446744073709551615 - nat_abs (to_z w64 (of_z w64 (negsuc 0 -ℤ to_z w64 (of_z w64 n))))) ≡ n
    down-signed = ap (λ (z : ℤ). signed (18446744073709551615 - nat_abs z)) again ∙ high k small ∙ sym (below e).1
