-- Term numbers, bindings and tuples: that they hold terms of given types, as types and as the tests of the definitions.
use Prim.Native.Nat.{ℕ, zero, suc, ◌<◌}
use native.Mathlib.Omega.{arith}
use mathlib.Core.Path.{◌≡◌, refl}
use mathlib.Core.List.{List, [], ◌∷◌}
use mathlib.Core.Bool.{Bool, ◌||◌}
use mathlib.Core.Option.{Option, none, some, none-ne-some, some-injective}
use lib.Dec.{T}
use lib.ListN.{length, get_elem?}
use Rattle.definitions.specs.Types.{Ty}
use Rattle.definitions.specs.Terms.{Term, Schema, sort_of}
use Rattle.definitions.specs.Evaluate.{Bindings}
use Rattle.definitions.specs.Saved.{is_bound}
use Rattle.definitions.specs.Sound.{term_has, number_has}
use Rattle.definitions.specs.Calls.{constants_of}
use Rattle.laws.proofs.Tests.{or_left, or_right}
use Rattle.laws.specs.Bindings.{Extends, Holds, Bound, BoundIn}

-- ── elements by number ──────────────────────────────────────────────────────────────────────

module _ {A : Type 0} where
  pub there-is : (xs : List A) (i : ℕ) → i < length xs → (a : A) × (get_elem? xs i ≡ some a)
  there-is [] i h = absurd (omega arith)
  there-is (x ∷ xs) zero h = (x, refl)
  there-is (x ∷ xs) (suc i) h = there-is xs i (omega arith)

  pub is_below : (xs : List A) (i : ℕ) (a : A) → get_elem? xs i ≡ some a → i < length xs
  is_below [] i a e = absurd (none-ne-some a e)
  is_below (x ∷ xs) zero a e = omega arith
  is_below (x ∷ xs) (suc i) a e = omega (arith, is_below xs i a e)

pub holds_more : (S : Schema) (old new : List Term) → Extends old new → (i : ℕ) (τ : Ty) → Holds S old i τ → Holds S new i τ
holds_more S old new more i τ h = record { term = h.term; there = more i h.term h.there; typed = h.typed }

module _ (S : Schema) (terms : List Term) (τ : Ty) where
  pub test-holds : (i : ℕ) → T (number_has S terms i τ) → Holds S terms i τ
  test-holds i h = go (get_elem? terms i) refl h
    where
      go : (o : Option Term) → get_elem? terms i ≡ o → T (term_has S o τ) → Holds S terms i τ
      go none e k = absurd k
      go (some t) e k = record { term = t; there = e; typed = k }

  pub holds_test : (i : ℕ) → Holds S terms i τ → T (number_has S terms i τ)
  holds_test i h = rw h.there h.typed

-- the sort of a constant is that of its term
pub constant-sort : (S : Schema) (terms : List Term) (c : ℕ) (t : Term) → get_elem? terms c ≡ some t → constants_of S terms c ≡ sort_of S t
unfolding constants_of
constant-sort S [] c t e = absurd (none-ne-some t e)
constant-sort S (x ∷ xs) zero t e = rw (some-injective x t e)
constant-sort S (x ∷ xs) (suc c) t e = constant-sort S xs c t e

-- ── bindings ────────────────────────────────────────────────────────────────────────────────

pub test-bound : (β : Bindings) (v : ℕ) → T (is_bound (β v)) → Bound β v
test-bound β v h = go (β v) refl h
  where
    go : (o : Option ℕ) → β v ≡ o → T (is_bound o) → Bound β v
    go none e k = absurd k
    go (some i) e k = record { number = i; is = e }

pub bound-test : (β : Bindings) (v : ℕ) → Bound β v → T (is_bound (β v))
bound-test β v h = rw h.is tt

module _ (β : Bindings) (f g : ℕ → Bool) where
  pub in_left : BoundIn β (λ v. f v || g v) → BoundIn β f
  in_left b v m = b v (or_left (f v) (g v) m)

  pub in_right : BoundIn β (λ v. f v || g v) → BoundIn β g
  in_right b v m = b v (or_right (f v) (g v) m)

-- ── tuples ──────────────────────────────────────────────────────────────────────────────────
