-- The number of a term: it finds the term, the numbers given before stay, and no term has two.
use Prim.Native.Nat.{ℕ, zero, suc, ◌≤◌}
use native.Mathlib.Omega.{arith}
use mathlib.Core.Path.{◌≡◌, refl, sym, ap, ◌∙◌}
use mathlib.Core.List.{List, [], ◌∷◌}
use mathlib.Core.Bool.{Bool, true, false, not}
use mathlib.Core.Option.{some, none-ne-some, some-injective}
use lib.Dec.{T, T_not}
use lib.ListN.{length, get_elem?}
use Rattle.definitions.specs.Lists.{every, distinct}
use Rattle.definitions.specs.Terms.{Term, same_term}
use Rattle.definitions.specs.Machine.{Numbered, after_term, numbered}
use Rattle.laws.proofs.Tests.{and_left, and_right}
use Rattle.laws.proofs.Equality.{same-term, term-refl}
use Rattle.laws.specs.Bindings.{Extends}

-- by the cases of a term that is numbered: it stands first, or it is numbered among the others
pub by_number : (P : Numbered → Type 0) (t x : Term) (xs : List Term) → (T (same_term t x) → P (record { number = zero; terms = x ∷ xs }))
    → (T (not (same_term t x)) → P (after_term x (numbered t xs))) → P (numbered t (x ∷ xs))
unfolding numbered
by_number P t x xs h k = go (same_term t x) h k
  where
    go : (b : Bool) → (T b → P (record { number = zero; terms = x ∷ xs })) → (T (not b) → P (after_term x (numbered t xs)))
        → P (elim b as (λ c. Numbered) [ true ↦ record { number = zero; terms = x ∷ xs } | false ↦ after_term x (numbered t xs) ])
    go true h k = h tt
    go false h k = k tt

-- the number finds the term
pub number-there : (t : Term) (terms : List Term) → get_elem? (numbered t terms).terms (numbered t terms).number ≡ some t
unfolding numbered
number-there t [] = refl
number-there t (x ∷ xs) =
    by_number (λ r. get_elem? r.terms r.number ≡ some t) t x xs (λ h. ap some (sym (same-term t x h))) (λ h. number-there t xs)

extends-after : (x : Term) (xs ys : List Term) → Extends xs ys → Extends (x ∷ xs) (x ∷ ys)
extends-after x xs ys h zero u e = e
extends-after x xs ys h (suc i) u e = h i u e

-- the numbers given before stay
pub number-extends : (t : Term) (terms : List Term) → Extends terms (numbered t terms).terms
number-extends t [] = λ i u e. absurd (none-ne-some u e)
number-extends t (x ∷ xs) =
    by_number (λ r. Extends (x ∷ xs) r.terms) t x xs (λ h i u e. e) (λ h. extends-after x xs (numbered t xs).terms (number-extends t xs))

pub extends-length : (old new : List Term) → Extends old new → length old ≤ length new
extends-length [] new h = omega arith
extends-length (x ∷ xs) [] h = absurd (none-ne-some x (h 0 x refl))
extends-length (x ∷ xs) (y ∷ ys) h = omega (arith, extends-length xs ys (λ i t e. h (suc i) t e))

-- no term has two numbers
module _ (t : Term) where
  not-later : (x : Term) (xs : List Term) → T (every (λ y. not (same_term x y)) xs) → x ≡ t → (j : ℕ) → get_elem? xs j ≡ some t → ⊥
  not-later x [] h e j f = none-ne-some t f
  not-later x (y ∷ ys) h e zero f =
      let same : x ≡ y = e ∙ sym (some-injective y t f) in
      let k : T (same_term x y) = rw same (term-refl y) in
      T_not (same_term x y) (and_left (not (same_term x y)) (every (λ y. not (same_term x y)) ys) h) k
  not-later x (y ∷ ys) h e (suc j) f = not-later x ys (and_right (not (same_term x y)) (every (λ y. not (same_term x y)) ys) h) e j f

  pub number-unique : (terms : List Term) → T (distinct same_term terms) → (i j : ℕ) → get_elem? terms i ≡ some t → get_elem? terms j ≡ some t → i ≡ j
  number-unique [] h i j e f = absurd (none-ne-some t e)
  number-unique (x ∷ xs) h zero zero e f = refl
  number-unique (x ∷ xs) h zero (suc j) e f =
      absurd (not-later x xs (and_left (every (λ y. not (same_term x y)) xs) (distinct same_term xs) h) (some-injective x t e) j f)
  number-unique (x ∷ xs) h (suc i) zero e f =
      absurd (not-later x xs (and_left (every (λ y. not (same_term x y)) xs) (distinct same_term xs) h) (some-injective x t f) i e)
  number-unique (x ∷ xs) h (suc i) (suc j) e f =
      ap suc (number-unique xs (and_right (every (λ y. not (same_term x y)) xs) (distinct same_term xs) h) i j e f)
