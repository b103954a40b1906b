-- Tuples as arrays have them.
use Prim.Native.Nat.{ℕ, zero, suc, ◌+◌, ◌-◌, ◌≤◌, ◌<◌}
use native.Mathlib.Omega.{arith}
use mathlib.Core.Path.{◌≡◌, refl, ◌∙◌, ap₂, subst}
use mathlib.Core.List.{List, [], ◌∷◌}
use mathlib.Core.Logic.{⊎_elim}
use lib.Dec.{T, eqb, eqb_refl}
use lib.ListN.{length, get_or, set}
use lib.Seq.{get_or-set_same, get_or-set_other}
use Rattle.definitions.specs.Lists.{is_in}
use Rattle.laws.proofs.Ranges.{split}
use Rattle.laws.proofs.Tests.{or_left, or_right}
use Rattle.search.specs.Finding.{numbers_from}

-- ── numbers of arrays ───────────────────────────────────────────────────────────────────────

module _ (f : List ℕ) (size k : ℕ) where
  pub numbers-none : size ≤ k → numbers_from (size - k) f k ≡ []
  unfolding numbers_from
  numbers-none h = let e : size - k ≡ 0 = omega arith in rw e refl

  pub numbers_more : k < size → numbers_from (size - k) f k ≡ get_or f k 0 ∷ numbers_from (size - (k + 1)) f (k + 1)
  unfolding numbers_from
  numbers_more h = let e : size - k ≡ suc (size - (k + 1)) = omega arith in rw e refl

numbers-set : (f : List ℕ) (j i m k : ℕ) → j < k → numbers_from m (set f j i) k ≡ numbers_from m f k
unfolding numbers_from
numbers-set f j i zero k h = refl
numbers-set f j i (suc m) k h = ap₂ {C = List ℕ} ◌∷◌ (get_or-set_other f j k i 0 (λ e. omega arith)) (numbers-set f j i m (k + 1) (omega arith))

-- a tuple found at the next level, with its number here
pub tuple-set : (t : List ℕ) (size k i : ℕ) → k < size → k < length t → numbers_from (size - k) (set t k i) k ≡ i ∷ numbers_from (size - (k + 1)) t (k + 1)
tuple-set t size k i h l =
    numbers_more (set t k i) size k h ∙ ap₂ {C = List ℕ} ◌∷◌ (get_or-set_same t k i 0 l) (numbers-set t k i (size - (k + 1)) (k + 1) (omega arith))

-- a number of the array is among those from a place on
pub in-later : (f : List ℕ) (size k j : ℕ) → k ≤ j → j < size → T (is_in (get_or f j 0) (numbers_from (size - k) f k))
unfolding numbers_from
in-later f size k j l h = go (size - k) k (omega arith) l
  where
    go : (n k : ℕ) → j < k + n → k ≤ j → T (is_in (get_or f j 0) (numbers_from n f k))
    go zero k b l = absurd (omega arith)
    go (suc n) k b l =
        ⊎_elim
        (λ (m : k + 1 ≤ j). or_right (eqb (get_or f j 0) (get_or f k 0)) (is_in (get_or f j 0) (numbers_from n f (k + 1))) (go n (k + 1) (omega arith) m))
        (λ (m : j < k + 1).
        let e : j ≡ k = omega arith in
        or_left (eqb (get_or f j 0) (get_or f k 0)) (is_in (get_or f j 0) (numbers_from n f (k + 1))) (subst (λ i. T (eqb (get_or f j 0) (get_or f i 0))) e (eqb_refl (get_or f j 0))))
        (split (k + 1) j)
