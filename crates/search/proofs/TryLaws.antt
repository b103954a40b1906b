-- The next term of a type; and the order of tuples, at their first numbers.
use Prim.Native.Nat.{ℕ, zero, suc, ◌+◌, ◌≤◌, ◌<◌}
use native.Mathlib.Omega.{arith}
use mathlib.Core.Path.{◌≡◌, subst⁻¹}
use mathlib.Core.List.{List, ◌∷◌}
use mathlib.Core.Bool.{Bool, true, false, cond, ◌&&◌, ◌||◌}
use lib.Dec.{T, eqb, ltb, eqb→eq, ltb→lt}
use lib.ListN.{length}
use Rattle.definitions.specs.Types.{Ty}
use Rattle.definitions.specs.Terms.{Term, Schema}
use Rattle.definitions.specs.Values.{before}
use Rattle.definitions.specs.Search.{Tuple, earlier}
use Rattle.definitions.specs.Sound.{number_has}
use Rattle.laws.proofs.Tests.{by-test}
use Rattle.search.specs.Finding.{skip}

-- ── the next term of a type ─────────────────────────────────────────────────────────────────

module _ (S : Schema) (τ : Ty) (terms : List Term) where
  pub skip-floor : (n i : ℕ) → i ≤ skip S τ terms n i
  unfolding skip
  skip-floor zero i = omega arith
  skip-floor (suc n) i =
      by-test (λ x. i ≤ x) (number_has S terms i τ) i (skip S τ terms n (suc i)) (λ k. omega arith) (λ k. omega (arith, skip-floor n (suc i)))

  pub skip-reaches : (n i j : ℕ) → i ≤ j → T (number_has S terms j τ) → skip S τ terms n i ≤ j
  unfolding skip
  skip-reaches zero i j l h = l
  skip-reaches (suc n) i j l h = go (number_has S terms i τ) (λ (e : i ≡ j). subst⁻¹ (λ x. T (number_has S terms x τ)) e h) (λ k. skip-reaches n (suc i) j k h)
    where
      go : (b : Bool) → (i ≡ j → T b) → (suc i ≤ j → skip S τ terms n (suc i) ≤ j) → cond b i (skip S τ terms n (suc i)) ≤ j
      go true e k = l
      go false e k = k (let d : i ≡ j → ⊥ = e in omega arith)

  pub skip-typed : (n i : ℕ) → length terms ≤ i + n → skip S τ terms n i < length terms → T (number_has S terms (skip S τ terms n i) τ)
  unfolding skip
  skip-typed zero i h k = absurd (omega arith)
  skip-typed (suc n) i h k =
      by-test (λ x. x < length terms → T (number_has S terms x τ)) (number_has S terms i τ) i (skip S τ terms n (suc i))
      (λ t l. t) (λ t l. skip-typed n (suc i) (omega arith) l) k

-- ── the order of tuples, at its first number ────────────────────────────────────────────────

pub earlier-cases : (j i : ℕ) (s t : Tuple) (G : Type 0) → (j < i → G) → (j ≡ i → T (earlier s t) → G) → T (earlier (j ∷ s) (i ∷ t)) → G
unfolding before
earlier-cases j i s t G f g h = go (ltb j i) (eqb j i) (ltb→lt j i) (eqb→eq j i) h
  where
    go : (a b : Bool) → (T a → j < i) → (T b → j ≡ i) → T (a || (b && earlier s t)) → G
    go true b x y h = f (x tt)
    go false true x y h = g (y tt) h
    go false false x y h = absurd h
