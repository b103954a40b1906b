-- Counting in a list: how often one number stands in it, and all below a bound together; an alphabet of 95 entries has no others.
use Prim.Native.Nat.{ℕ, zero, suc, ◌+◌, ◌≤◌, ◌<◌}
use native.Mathlib.Omega.{arith}
use native.Mathlib.Decide.{ℕ_discrete}
use mathlib.Core.Path.{◌≡◌, refl, sym}
use mathlib.Core.List.{List, [], ◌∷◌}
use mathlib.Core.Bool.{Bool, true}
use mathlib.Core.Logic.{⊎_elim}
use lib.Dec.{T, eqb, eqb→eq}
use lib.ListN.{length, get_or}
use borrow.Author.Tests.{eq-eqb, ne_eqb}
use Rattle.definitions.specs.Lists.{every}
use Rattle.laws.proofs.Tests.{and_left, and_right, true_is}
use Rattle.laws.proofs.Ranges.{split}
use Rattle.definitions.specs.Limits.{ranks_width}
use Rattle.definitions.specs.Alphabet.{occurs, below, is_alphabet}

-- ── one number ──────────────────────────────────────────────────────────────────────────────

pub occurs-none : (n : ℕ) → occurs n [] ≡ 0
unfolding occurs
occurs-none n = refl

pub occurs-here : (n x : ℕ) (l : List ℕ) → n ≡ x → occurs n (x ∷ l) ≡ suc (occurs n l)
unfolding occurs
occurs-here n x l e = rw (eq-eqb n x e) (omega arith)

pub occurs-later : (n x : ℕ) (l : List ℕ) → (n ≡ x → ⊥) → occurs n (x ∷ l) ≡ occurs n l
unfolding occurs
occurs-later n x l h = rw (ne_eqb n x h) (omega arith)

occurs-more : (n x : ℕ) (l : List ℕ) → occurs n l ≤ occurs n (x ∷ l)
unfolding occurs
occurs-more n x l = omega arith

-- a number that stands at a place, and one that stands at two
occurs-at : (l : List ℕ) (i : ℕ) → i < length l → 1 ≤ occurs (get_or l i 0) l
occurs-at [] i h = absurd (omega arith)
occurs-at (x ∷ l) zero h = omega (arith, occurs-here x x l refl)
occurs-at (x ∷ l) (suc i) h = omega (arith, occurs-more (get_or l i 0) x l, occurs-at l i (omega arith))

pub occurs-twice : (l : List ℕ) (i j : ℕ) → i < j → j < length l → get_or l i 0 ≡ get_or l j 0 → 2 ≤ occurs (get_or l j 0) l
occurs-twice [] i j a h e = absurd (omega arith)
occurs-twice (x ∷ l) i zero a h e = absurd (omega arith)
occurs-twice (x ∷ l) zero (suc j) a h e = omega (arith, occurs-here (get_or l j 0) x l (sym e), occurs-at l j (omega arith))
occurs-twice (x ∷ l) (suc i) (suc j) a h e = omega (arith, occurs-more (get_or l j 0) x l, occurs-twice l i j (omega arith) (omega arith) e)

-- ── all numbers below n ─────────────────────────────────────────────────────────────────────

-- how often they stand in a list together
unfoldable pub total : ℕ → List ℕ → ℕ
total zero l = 0
total (suc n) l = occurs n l + total n l

total-none : (n : ℕ) → total n [] ≡ 0
unfolding total occurs
total-none zero = refl
total-none (suc n) = omega (arith, total-none n)

-- a number from n on does not count
pub total-large : (n x : ℕ) (l : List ℕ) → n ≤ x → total n (x ∷ l) ≡ total n l
unfolding total
total-large zero x l h = refl
total-large (suc n) x l h = omega (arith, occurs-later n x l (λ e. omega arith), total-large n x l (omega arith))

-- one below n counts once
pub total-small : (n x : ℕ) (l : List ℕ) → x < n → total n (x ∷ l) ≡ suc (total n l)
unfolding total
total-small zero x l h = absurd (omega arith)
total-small (suc n) x l h = go (ℕ_discrete n x) (total-small n x l)
  where
    go : Dec (n ≡ x) → (x < n → total n (x ∷ l) ≡ suc (total n l)) → occurs n (x ∷ l) + total n (x ∷ l) ≡ suc (occurs n l + total n l)
    go (yes e) rest = omega (arith, occurs-here n x l e, total-large n x l (omega arith))
    go (no d) rest = omega (arith, occurs-later n x l d, rest (omega (arith, d)))

pub total-length : (n : ℕ) (l : List ℕ) → total n l ≤ length l
total-length n [] = omega (arith, total-none n)
total-length n (x ∷ l) =
    ⊎_elim
    (λ h. omega (arith, total-large n x l h, total-length n l))
    (λ h. omega (arith, total-small n x l h, total-length n l))
    (split n x)

-- where all that stand in a list count, each is below n
pub all_small : (n : ℕ) (l : List ℕ) → total n l ≡ length l → (i : ℕ) → i < length l → get_or l i 0 < n
all_small n [] e i h = absurd (omega arith)
all_small n (x ∷ l) e zero h = ⊎_elim (λ k. absurd (omega (arith, total-large n x l k, total-length n l))) (λ k. k) (split n x)
all_small n (x ∷ l) e (suc i) h =
    ⊎_elim
    (λ k. absurd (omega (arith, total-large n x l k, total-length n l)))
    (λ k. all_small n l (omega (arith, total-small n x l k)) i (omega arith))
    (split n x)

-- ── each number below n once ────────────────────────────────────────────────────────────────

abbrev pub Once : ℕ → List ℕ → Type 0
Once n l = (r : ℕ) → r < n → occurs r l ≡ 1

pub once-total : (n : ℕ) (l : List ℕ) → Once n l → total n l ≡ n
unfolding total
once-total zero l h = refl
once-total (suc n) l h = omega (arith, h n (omega arith), once-total n l (λ r k. h r (omega arith)))

-- none twice, and n in all: none is missing
module _ (l : List ℕ) where
  total-few : (n : ℕ) → ((r : ℕ) → r < n → occurs r l ≤ 1) → total n l ≤ n
  unfolding total
  total-few zero h = omega arith
  total-few (suc n) h = omega (arith, h n (omega arith), total-few n (λ r k. h r (omega arith)))

  pub total-once : (n : ℕ) → ((r : ℕ) → r < n → occurs r l ≤ 1) → total n l ≡ n → Once n l
  unfolding total
  total-once zero h e r k = absurd (omega arith)
  total-once (suc n) h e r k = go (ℕ_discrete r n) (total-once n (λ q j. h q (omega arith)))
    where
      go : Dec (r ≡ n) → (total n l ≡ n → Once n l) → occurs r l ≡ 1
      go (yes z) rest = rw z (omega (arith, h n (omega arith), e, total-few n (λ q j. h q (omega arith))))
      go (no d) rest = rest (omega (arith, h n (omega arith), e, total-few n (λ q j. h q (omega arith)))) r (omega (arith, d))

-- ── an alphabet ─────────────────────────────────────────────────────────────────────────────

module _ (l : List ℕ) where
  abbrev tested : ℕ → Bool
  tested n = every (λ r. eqb (occurs r l) 1) (below n)

  once-tested : (n : ℕ) → Once n l → tested n ≡ true
  unfolding below
  once-tested zero h = refl
  once-tested (suc n) h = rw (h n (omega arith), once-tested n (λ r k. h r (omega arith))) refl

  tested-once : (n : ℕ) → T (tested n) → Once n l
  unfolding below
  tested-once zero h r k = absurd (omega arith)
  tested-once (suc n) h r k = go (ℕ_discrete r n) (tested-once n)
    where
      go : Dec (r ≡ n) → (T (tested n) → Once n l) → occurs r l ≡ 1
      go (yes z) rest = rw z (eqb→eq (occurs n l) 1 (and_left (eqb (occurs n l) 1) (tested n) h))
      go (no d) rest = rest (and_right (eqb (occurs n l) 1) (tested n) h) r (omega (arith, d))

  pub once-alphabet : Once ranks_width l → is_alphabet l ≡ true
  unfolding is_alphabet
  once-alphabet h = once-tested ranks_width h

  pub alphabet-once : is_alphabet l ≡ true → Once ranks_width l
  unfolding is_alphabet
  alphabet-once e = tested-once ranks_width (true_is (tested ranks_width) e)
