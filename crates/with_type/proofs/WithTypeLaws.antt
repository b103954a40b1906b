-- A type noted at a variable, as the code does it.
use Prim.Native.Nat.{ℕ, ◌-◌, ◌≤◌, ◌<◌}
use mathlib.Core.Path.{◌≡◌, refl, sym, ap, ◌∙◌, subst}
use mathlib.Core.List.{List}
use mathlib.Core.Bool.{Bool, true, false, not, ◌&&◌, ◌||◌}
use lib.Dec.{eqb}
use borrow.Author.Tests.{eq-eqb, ne_eqb}
use Rattle.definitions.specs.Limits.{variable_limit}
use Rattle.definitions.specs.Types.{Ty, plain, range, decimal, integer, same_datatype}
use Rattle.laws.specs.Lists.{flag}
use Rattle.codes.specs.TypeCodes.{datatype_of, type_of}
use Rattle.codes.proofs.CodeLaws.{is-decimal, is-integer, plain_code, range-code}
use Rattle.facts.specs.declared.noting.Tables.{Tables}
use Rattle.facts.specs.Tables.{at_most, at_least, impossible}
use Rattle.facts.specs.Walk.{Joined}
use Rattle.facts.proofs.WalkLaws.{when-joined, at-most-joins, at-least-joins, impossible-joins}
use Rattle.with_type.specs.WithType.{pair_at, flagged, with_highs, with_lows, leaves, at_most_type, with_type}

module _ (t : Tables) (x k : ℕ) where
  pub leaves-plain : k < 8 → not (flag t.property x || (flag t.low x && eqb k 3)) ≡ leaves t x (type_of k)
  unfolding leaves
  leaves-plain l = rw (plain_code k l, is-decimal k) refl

  pub leaves-range : 8 ≤ k → not (flag t.high x && eqb (k - 8) 5) ≡ leaves t x (type_of k)
  unfolding leaves
  leaves-range l = rw (range-code k l, is-integer (k - 8)) refl

module _ (t : Tables) (x : ℕ) {more : List Bool} where
  pub highs-are : more ≡ flagged t.high (λ p. flag t.edges (pair_at false x p))
      → record { families = t.families; low = t.low; high = more; property = t.property; edges = t.edges } ≡ with_highs x t
  highs-are e = λ i. record { families = t.families; low = t.low; high = e i; property = t.property; edges = t.edges }

  pub lows-are : more ≡ flagged t.low (λ y. flag t.edges (pair_at true x y))
      → record { families = t.families; low = more; high = t.high; property = t.property; edges = t.edges } ≡ with_lows x t
  lows-are e = λ i. record { families = t.families; low = e i; high = t.high; property = t.property; edges = t.edges }

module _ (t : Tables) (j : Joined t) (x : ℕ) (i : x < variable_limit) where
  type-joins : (τ : Ty) → Joined (at_most_type x τ t)
  unfolding at_most_type
  type-joins (plain d) = let h = at-most-joins t j x d i in when-joined t j (same_datatype d decimal) (with_highs x) (at_most x d t) h h
  type-joins (range d) = let h = at-least-joins t j x d i in when-joined t j (same_datatype d integer) (with_lows x) (at_least x d t) h h

  module _ {u : Tables} {b : Bool} (k : ℕ) (e : b ≡ leaves t x (type_of k)) where
    pub not_left : b ≡ false → u ≡ impossible t → (u ≡ with_type x (type_of k) t) × Joined u
    unfolding with_type
    not_left f h = (rw (sym e ∙ f) h, subst Joined (sym h) (impossible-joins t j))

    left : b ≡ true → u ≡ at_most_type x (type_of k) t → (u ≡ with_type x (type_of k) t) × Joined u
    unfolding with_type
    left f h = (rw (sym e ∙ f) h, subst Joined (sym h) (type-joins (type_of k)))

    module _ (f : b ≡ true) where
      pub noted-decimal : {v : Tables} → k < 8 → k ≡ 3 → v ≡ at_most x (datatype_of k) t → u ≡ with_highs x v → (u ≡ with_type x (type_of k) t) × Joined u
      unfolding at_most_type
      noted-decimal l q ev eu = left f (rw (plain_code k l, is-decimal k, eq-eqb k 3 q) (eu ∙ ap (with_highs x) ev))

      pub noted-plain : k < 8 → (k ≡ 3 → ⊥) → u ≡ at_most x (datatype_of k) t → (u ≡ with_type x (type_of k) t) × Joined u
      unfolding at_most_type
      noted-plain l q eu = left f (rw (plain_code k l, is-decimal k, ne_eqb k 3 q) eu)

      pub noted-integer : {v : Tables} → 8 ≤ k → k - 8 ≡ 5 → v ≡ at_least x (datatype_of (k - 8)) t → u ≡ with_lows x v → (u ≡ with_type x (type_of k) t) × Joined u
      unfolding at_most_type
      noted-integer l q ev eu = left f (rw (range-code k l, is-integer (k - 8), eq-eqb (k - 8) 5 q) (eu ∙ ap (with_lows x) ev))

      pub noted-range : 8 ≤ k → (k - 8 ≡ 5 → ⊥) → u ≡ at_least x (datatype_of (k - 8)) t → (u ≡ with_type x (type_of k) t) × Joined u
      unfolding at_most_type
      noted-range l q eu = left f (rw (range-code k l, is-integer (k - 8), ne_eqb (k - 8) 5 q) eu)
