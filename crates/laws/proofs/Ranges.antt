-- A test that holds at each number of a range, by computation, holds at a number that lies in the range.
use Prim.Native.Nat.{ℕ, zero, suc, ◌+◌, ◌≤◌, ◌<◌}
use mathlib.Core.Bool.{Bool, true, false, ◌&&◌}
use mathlib.Core.Path.{◌≡◌, refl, subst}
use mathlib.Core.Logic.{⊎_elim, ◌⊎◌, inl, inr}
use native.Mathlib.Nat.{eq-or-lt_of_le}
use native.Mathlib.Omega.{arith}
use lib.Dec.{T, leb}
use borrow.Author.Tests.{leb-true, leb-false}
use Rattle.laws.proofs.Tests.{and_left, and_right}

-- the test at lo, lo + 1, .., n of them
abbrev pub every_from : (ℕ → Bool) → (lo n : ℕ) → Bool
every_from test lo zero = true
every_from test lo (suc n) = test lo && every_from test (suc lo) n

pub every_in : (test : ℕ → Bool) (lo n : ℕ) → T (every_from test lo n) → (k : ℕ) → lo ≤ k → k < lo + n → T (test k)
every_in test lo zero h k from below = absurd (omega arith)
every_in test lo (suc n) h k from below =
    ⊎_elim
    (λ e. subst (λ (j : ℕ). T (test j)) e (and_left (test lo) (every_from test (suc lo) n) h))
    (λ l. every_in test (suc lo) n (and_right (test lo) (every_from test (suc lo) n) h) k l (omega arith))
    (eq-or-lt_of_le from)

-- a number of a range of two
pub either : (lo : ℕ) {k : ℕ} → lo ≤ k → k < lo + 2 → (k ≡ lo) ⊎ (k ≡ lo + 1)
either lo {k} from below = ⊎_elim (λ e. inl (omega arith)) (λ l. inr (omega arith)) (eq-or-lt_of_le from)

pub split : (a b : ℕ) → (a ≤ b) ⊎ (b < a)
split a b = go (leb a b) refl
  where
    go : (t : Bool) → leb a b ≡ t → (a ≤ b) ⊎ (b < a)
    go true e = inl (leb-true a b e)
    go false e = inr (leb-false a b e)
