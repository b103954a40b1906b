-- The slot of a number holds its term.
use Prim.Native.Nat.{ℕ, zero, suc, ◌+◌, ◌*◌, ◌≤◌}
use mathlib.Core.Bool.{Bool, true, false}
use mathlib.Core.List.{List, [], ◌∷◌}
use mathlib.Core.Logic.{◌⊎◌, inl, inr}
use mathlib.Core.Option.{Option, some}
use mathlib.Core.Path.{◌≡◌, refl, sym, ◌∙◌, ap, subst}
use native.Mathlib.Omega.{arith}
use lib.Dec.{eqb}
use lib.ListN.{length, get_elem?, drop}
use Rattle.definitions.specs.Limits.{slot_width, term_limit}
use Rattle.definitions.specs.Bytes.{byte, part, all_zero, provided, onward}
use Rattle.definitions.specs.Terms.{Term}
use Rattle.definitions.specs.Saved.{slot_term, terms_from, terms_in}
use Rattle.laws.proofs.Options.{some_is, some-not-none, provided-inv, onward-inv}

-- a slot and the slots after it
record Slots (left : ℕ) (table : List ℕ) (at : ℕ) (ts : List Term) : Type 0 where
  term : Term
  rest : List Term
  here : slot_term (part table at slot_width) ≡ some term
  later : terms_from left table (at + slot_width) ≡ some rest
  whole : ts ≡ term ∷ rest

module _ (table : List ℕ) where
  slots-of : (left at : ℕ) (ts : List Term) → terms_from (suc left) table at ≡ some ts → (ts ≡ []) ⊎ Slots left table at ts
  unfolding terms_from
  slots-of left at ts e = go (eqb (byte table at) 0) e
    where
      go : (b : Bool) → (elim b as (λ c. Option (List Term)) [
        | true ↦ provided (all_zero (drop at table)) (some [])
        | false ↦ onward (slot_term (part table at slot_width)) (λ t. onward (terms_from left table (at + slot_width)) (λ ts. some (t ∷ ts)))
      ]) ≡ some ts → (ts ≡ []) ⊎ Slots left table at ts
      go true e = inl (sym (some_is (provided-inv (all_zero (drop at table)) (some []) e).1))
      go false e =
          let t = onward-inv (slot_term (part table at slot_width)) (λ t. onward (terms_from left table (at + slot_width)) (λ ts. some (t ∷ ts))) e in
          let r = onward-inv (terms_from left table (at + slot_width)) (λ ts. some (t.0 ∷ ts)) t.2 in
          inr (record { term = t.0; rest = r.0; here = t.1; later = r.1; whole = sym (some_is r.2) })

  from-few : (left at : ℕ) (ts : List Term) → terms_from left table at ≡ some ts → length ts ≤ left
  unfolding terms_from
  from-few zero at ts e = let h : [] ≡ ts = some_is e in omega (arith, ap length h)
  from-few (suc left) at ts e = go (slots-of left at ts e) (λ at ts e. from-few left at ts e)
    where
      go : (ts ≡ []) ⊎ Slots left table at ts → ((at : ℕ) (ts : List Term) → terms_from left table at ≡ some ts → length ts ≤ left) → length ts ≤ suc left
      go (inl h) k = omega (arith, ap length h)
      go (inr s) k = omega (arith, ap length s.whole, k (at + slot_width) s.rest s.later)

  from_at : (left at : ℕ) (ts : List Term) → terms_from left table at ≡ some ts → (i : ℕ) (t : Term) → get_elem? ts i ≡ some t
      → slot_term (part table (at + i * slot_width) slot_width) ≡ some t
  unfolding terms_from
  from_at zero at ts e i t h = let n : [] ≡ ts = some_is e in absurd (some-not-none (rw (← n) at h) refl)
  from_at (suc left) at ts e i t h = go (slots-of left at ts e) (λ at ts e i t h. from_at left at ts e i t h) i h
    where
      go : (ts ≡ []) ⊎ Slots left table at ts
          → ((at : ℕ) (ts : List Term) → terms_from left table at ≡ some ts → (i : ℕ) (t : Term) → get_elem? ts i ≡ some t
          → slot_term (part table (at + i * slot_width) slot_width) ≡ some t)
          → (i : ℕ) → get_elem? ts i ≡ some t → slot_term (part table (at + i * slot_width) slot_width) ≡ some t
      go (inl n) k i h = absurd (some-not-none (rw n at h) refl)
      go (inr s) k zero h =
          let e₀ : at + zero * slot_width ≡ at = omega arith in
          rw e₀ (s.here ∙ rw s.whole at h)
      go (inr s) k (suc i) h =
          let e₁ : at + suc i * slot_width ≡ at + slot_width + i * slot_width = omega arith in
          rw e₁ (k (at + slot_width) s.rest s.later i t (rw s.whole at h))

module _ (table : List ℕ) (ts : List Term) (e : terms_in table ≡ some ts) where
  pub terms-few : length ts ≤ term_limit
  unfolding terms_in
  terms-few = from-few table term_limit 0 ts e

  pub slot_at : (i : ℕ) (t : Term) → get_elem? ts i ≡ some t → slot_term (part table (i * slot_width) slot_width) ≡ some t
  unfolding terms_in
  slot_at i t h =
      let e₀ : 0 + i * slot_width ≡ i * slot_width = omega arith in
      subst (λ (n : ℕ). slot_term (part table n slot_width) ≡ some t) e₀ (from_at table term_limit 0 ts e i t h)
