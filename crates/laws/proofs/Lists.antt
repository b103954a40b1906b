-- Laws of tests and choices on lists, in terms of their members; and of what stands at a place.
use mathlib.Core.Path.{◌≡◌, refl, ap, ap₂, sym, ◌∙◌, subst}
use mathlib.Core.Logic.{◌⊎◌, inl, inr}
use Prim.Native.Nat.{ℕ, zero, suc, ◌<◌}
use native.Mathlib.Omega.{arith}
use mathlib.Core.List.Memᴰ
use mathlib.Core.List.{List, [], ◌∷◌, ◌++◌}
use mathlib.Core.Bool.{Bool, true, false, cond, ◌&&◌, ◌||◌, and_assoc, or_assoc}
use lib.Dec.{T}
use lib.ListN.{get_or, length}
use Rattle.definitions.specs.Lists.{every, some?, keep}
use Rattle.definitions.specs.Typing.{those}
use Rattle.laws.proofs.Tests.{and_left, and_right, and_make, or_cases, or_left, or_right, not_both, by-test}
use Rattle.laws.specs.Lists.{◌∈◌}

-- a choice that waits until it is asked is a choice
pub elim-is-cond : {A : Type 0} (b : Bool) (x y : A) → elim b as (λ c. A) [ true ↦ x | false ↦ y ] ≡ cond b x y
elim-is-cond true x y = refl
elim-is-cond false x y = refl

module _ {A : Type 0} where
  -- ── members ───────────────────────────────────────────────────────────────────────────────

  pub here : {x : A} {xs : List A} → x ∈ x ∷ xs
  here = Memᴰ.head refl

  pub there : {x y : A} {xs : List A} → x ∈ xs → x ∈ y ∷ xs
  there m = Memᴰ.tail m

  -- what holds of the first and of the others holds of all
  pub by-cons : {P : A → Type 0} {y : A} {xs : List A} → P y → ((x : A) → x ∈ xs → P x) → (x : A) → x ∈ y ∷ xs → P x
  by-cons {P} {y} {xs} first others x m = go (Memᴰ.cases_cons m)
    where
      go : (x ≡ y) ⊎ (x ∈ xs) → P x
      go (inl e) = subst P (sym e) first
      go (inr k) = others x k

  pub by_append : {P : A → Type 0} (xs : List A) {ys : List A} → ((x : A) → x ∈ xs → P x) → ((x : A) → x ∈ ys → P x) → (x : A) → x ∈ xs ++ ys → P x
  by_append {P} xs {ys} p q x m = go (Memᴰ.append_cases xs m)
    where
      go : (x ∈ xs) ⊎ (x ∈ ys) → P x
      go (inl k) = p x k
      go (inr k) = q x k

  -- ── every ─────────────────────────────────────────────────────────────────────────────────

  pub every-at : (p : A → Bool) (xs : List A) → T (every p xs) → (x : A) → x ∈ xs → T (p x)
  every-at p [] h = λ x m. absurd (Memᴰ.not-nil m)
  every-at p (y ∷ xs) h = by-cons (and_left (p y) (every p xs) h) (every-at p xs (and_right (p y) (every p xs) h))

  pub every_of : (p : A → Bool) (xs : List A) → ((x : A) → x ∈ xs → T (p x)) → T (every p xs)
  every_of p [] f = tt
  every_of p (y ∷ xs) f = and_make (p y) (every p xs) (f y here) (every_of p xs (λ x m. f x (there m)))

  pub every_append : (p : A → Bool) (xs ys : List A) → every p (xs ++ ys) ≡ (every p xs && every p ys)
  every_append p [] ys = refl
  every_append p (x ∷ xs) ys = ap (λ b. p x && b) (every_append p xs ys) ∙ sym (and_assoc (p x) (every p xs) (every p ys))

  pub every-left : (p : A → Bool) (xs ys : List A) → T (every p (xs ++ ys)) → T (every p xs)
  every-left p xs ys h = and_left (every p xs) (every p ys) (rw every_append at h)

  pub every-right : (p : A → Bool) (xs ys : List A) → T (every p (xs ++ ys)) → T (every p ys)
  every-right p xs ys h = and_right (every p xs) (every p ys) (rw every_append at h)

  -- ── some? ─────────────────────────────────────────────────────────────────────────────────

  pub some_at : (p : A → Bool) (xs : List A) → T (some? p xs) → (x : A) × (x ∈ xs) × T (p x)
  some_at p [] h = absurd h
  some_at p (y ∷ xs) h = go (some_at p xs) (or_cases (p y) (some? p xs) h)
    where
      go : (T (some? p xs) → (x : A) × (x ∈ xs) × T (p x)) → T (p y) ⊎ T (some? p xs) → (x : A) × (x ∈ y ∷ xs) × T (p x)
      go rest (inl t) = (y, here, t)
      go rest (inr t) = let r = rest t in (r.0, there r.1, r.2)

  pub some_of : (p : A → Bool) (xs : List A) (x : A) → x ∈ xs → T (p x) → T (some? p xs)
  some_of p [] = λ x m. absurd (Memᴰ.not-nil m)
  some_of p (y ∷ xs) = by-cons (or_left (p y) (some? p xs)) (λ x m t. or_right (p y) (some? p xs) (some_of p xs x m t))

  pub some-append : (p : A → Bool) (xs ys : List A) → some? p (xs ++ ys) ≡ (some? p xs || some? p ys)
  some-append p [] ys = refl
  some-append p (x ∷ xs) ys = ap (λ b. p x || b) (some-append p xs ys) ∙ sym (or_assoc (p x) (some? p xs) (some? p ys))

  -- ── keep and those ────────────────────────────────────────────────────────────────────────

  pub keep_at : (p : A → Bool) (xs : List A) (x : A) → x ∈ keep p xs → (x ∈ xs) × T (p x)
  keep_at p [] = λ x m. absurd (Memᴰ.not-nil m)
  keep_at p (y ∷ xs) =
      by-test (λ l. (x : A) → x ∈ l → (x ∈ y ∷ xs) × T (p x)) (p y) (y ∷ keep p xs) (keep p xs)
      (λ t. by-cons (here, t) (λ x m. let r = keep_at p xs x m in (there r.0, r.1)))
      (λ t x m. let r = keep_at p xs x m in (there r.0, r.1))

  pub keep-of : (p : A → Bool) (xs : List A) (x : A) → x ∈ xs → T (p x) → x ∈ keep p xs
  keep-of p [] = λ x m. absurd (Memᴰ.not-nil m)
  keep-of p (y ∷ xs) =
      by-test (λ l. (x : A) → x ∈ y ∷ xs → T (p x) → x ∈ l) (p y) (y ∷ keep p xs) (keep p xs)
      (λ t. by-cons (λ u. here) (λ x m u. there (keep-of p xs x m u)))
      (λ t. by-cons (λ u. absurd (not_both (p y) u t)) (keep-of p xs))

  pub those-is-keep : (p : A → Bool) (xs : List A) → those p xs ≡ keep p xs
  unfolding those
  those-is-keep p [] = refl
  those-is-keep p (x ∷ xs) =
      elim-is-cond (p x) (x ∷ those p xs) (those p xs)
      ∙ ap₂ (cond (p x)) (ap (λ l. x ∷ l) (those-is-keep p xs)) (those-is-keep p xs)

  -- ── places ────────────────────────────────────────────────────────────────────────────────

  -- within a list it does not matter what stands past its end
  pub get_d-inside : (xs : List A) (i : ℕ) (d e : A) → i < length xs → get_or xs i d ≡ get_or xs i e
  get_d-inside [] i d e l = absurd (omega arith)
  get_d-inside (x ∷ xs) zero d e l = refl
  get_d-inside (x ∷ xs) (suc i) d e l = get_d-inside xs i d e (omega arith)
