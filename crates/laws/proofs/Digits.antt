-- A number's digits: more than it has are never asked for.
use Prim.Native.Nat.{ℕ, zero, suc, ◌+◌, ◌/◌, ◌%◌, ◌^◌, ◌≤◌, ◌<◌}
use native.Mathlib.Omega.{arith}
use mathlib.Core.Path.{◌≡◌, ap}
use mathlib.Core.Bool.{Bool, true, false}
use mathlib.Core.List.{◌∷◌, [], ◌++◌}
use lib.Dec.{ltb}
use borrow.Author.Tests.{lt-ltb}
use Rattle.definitions.specs.Terms.{Text}
use Rattle.definitions.specs.Values.{short_digits}

-- a number below 10 to the k has at most k digits, whatever bound is set beyond
pub digits-enough : (k bound n : ℕ) → k ≤ bound → n < 10 ^ suc k → short_digits (suc bound) n ≡ short_digits (suc k) n
unfolding short_digits
digits-enough zero bound n l h = rw (lt-ltb n 10 (omega arith), short_digits)
digits-enough (suc k) zero n l h = absurd (omega arith)
digits-enough (suc k) (suc bound) n l h = go (ltb n 10) (digits-enough k bound (n / 10) (omega arith) (omega arith))
  where
    by : Bool → Text → Text
    by b front = elim b as (λ c. Text) [ true ↦ (0x30 + n) ∷ [] | false ↦ front ++ ((0x30 + n % 10) ∷ []) ]

    go : (b : Bool) → short_digits (suc bound) (n / 10) ≡ short_digits (suc k) (n / 10)
        → by b (short_digits (suc bound) (n / 10)) ≡ by b (short_digits (suc k) (n / 10))
    go b e = ap (by b) e
