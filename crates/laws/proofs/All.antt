-- What holds of all elements of a list: as a type, and as the tests of the definitions (`every`, `distinct`, `some?`).
use mathlib.Core.Path.{◌≡◌, subst⁻¹}
use mathlib.Core.Logic.{⊎_elim}
use mathlib.Core.List.{List, [], ◌∷◌, ◌++◌, map}
use mathlib.Core.Bool.{Bool, true, false, cond, not, ◌&&◌, ◌||◌}
use lib.Dec.{T, T_not, not_T}
use Rattle.definitions.specs.Lists.{every, some?, keep, distinct}
use Rattle.laws.proofs.Tests.{and_left, and_right, and_make, or_cases, by-test}
use Rattle.laws.specs.Lists.{All}

not_or : (a b : Bool) → T (not (a || b)) → T (not a) × T (not b)
not_or true b h = absurd h
not_or false b h = (tt, h)

module _ {A : Type 0} (P : A → Type 0) where
  pub all_append : (xs ys : List A) → All P xs → All P ys → All P (xs ++ ys)
  all_append [] ys h k = k
  all_append (x ∷ xs) ys h k = (h.0, all_append xs ys h.1 k)

  pub all-cond : (b : Bool) (x : A) (xs : List A) → (T b → P x) → All P xs → All P (cond b (x ∷ xs) xs)
  all-cond true x xs p h = (p tt, h)
  all-cond false x xs p h = h

  pub all_keep : (p : A → Bool) (xs : List A) → All P xs → All P (keep p xs)
  all_keep p [] h = tt
  all_keep p (x ∷ xs) h = all-cond (p x) x (keep p xs) (λ t. h.0) (all_keep p xs h.1)

  pub all-weaken : (Q : A → Type 0) → ((a : A) → P a → Q a) → (xs : List A) → All P xs → All Q xs
  all-weaken Q f [] h = tt
  all-weaken Q f (x ∷ xs) h = (f x h.0, all-weaken Q f xs h.1)

  pub all_map : {B : Type 0} (Q : B → Type 0) (f : A → B) → ((a : A) → P a → Q (f a)) → (xs : List A) → All P xs → All Q (map f xs)
  all_map Q f k [] h = tt
  all_map Q f k (x ∷ xs) h = (k x h.0, all_map Q f k xs h.1)

-- what is kept passes the test
pub kept : {A : Type 0} (p : A → Bool) (xs : List A) → All (λ x. T (p x)) (keep p xs)
kept p [] = tt
kept p (x ∷ xs) = all-cond (λ x. T (p x)) (p x) x (keep p xs) (λ t. t) (kept p xs)

-- ── tests joined by and ─────────────────────────────────────────────────────────────────────

abbrev pub conj : List Bool → Bool
conj [] = true
conj (a ∷ []) = a
conj (a ∷ b ∷ bs) = a && conj (b ∷ bs)

pub conj-all : (bs : List Bool) → T (conj bs) → All T bs
conj-all [] h = tt
conj-all (a ∷ []) h = (h, tt)
conj-all (a ∷ b ∷ bs) h = (and_left a (conj (b ∷ bs)) h, conj-all (b ∷ bs) (and_right a (conj (b ∷ bs)) h))

pub all-conj : (bs : List Bool) → All T bs → T (conj bs)
all-conj [] h = tt
all-conj (a ∷ []) h = h.0
all-conj (a ∷ b ∷ bs) h = and_make a (conj (b ∷ bs)) h.0 (all-conj (b ∷ bs) h.1)

-- ── a test of every element ─────────────────────────────────────────────────────────────────

module _ {A : Type 0} (p : A → Bool) where
  pub all-of-every : (P : A → Type 0) → ((a : A) → T (p a) → P a) → (xs : List A) → T (every p xs) → All P xs
  all-of-every P f [] h = tt
  all-of-every P f (x ∷ xs) h = (f x (and_left (p x) (every p xs) h), all-of-every P f xs (and_right (p x) (every p xs) h))

  pub every-of-all : (P : A → Type 0) → ((a : A) → P a → T (p a)) → (xs : List A) → All P xs → T (every p xs)
  every-of-all P f [] h = tt
  every-of-all P f (x ∷ xs) h = and_make (p x) (every p xs) (f x h.0) (every-of-all P f xs h.1)

  pub every_any : ((a : A) → T (p a)) → (xs : List A) → T (every p xs)
  every_any f [] = tt
  every_any f (x ∷ xs) = and_make (p x) (every p xs) (f x) (every_any f xs)

  pub every-keep : (q : A → Bool) (xs : List A) → T (every p xs) → T (every p (keep q xs))
  every-keep q [] h = tt
  every-keep q (x ∷ xs) h =
      let rest = every-keep q xs (and_right (p x) (every p xs) h) in
      by-test (λ l. T (every p l)) (q x) (x ∷ keep q xs) (keep q xs) (λ t. and_make (p x) (every p (keep q xs)) (and_left (p x) (every p xs) h) rest) (λ t. rest)

  pub every-end : (x : A) (xs : List A) → T (every p xs) → T (p x) → T (every p (xs ++ (x ∷ [])))
  every-end x [] h k = and_make (p x) true k tt
  every-end x (y ∷ xs) h k =
      and_make (p y) (every p (xs ++ (x ∷ []))) (and_left (p y) (every p xs) h) (every-end x xs (and_right (p y) (every p xs) h) k)

-- ── the test that no two elements are the same, where `same` is equality ────────────────────

module _ {A : Type 0} (same : A → A → Bool) (is : (a b : A) → T (same a b) → a ≡ b) (itself : (a : A) → T (same a a)) where
  pub other_way : (a b : A) → T (same a b) → T (same b a)
  other_way a b h = rw (is a b h) (itself b)

  pub not-other-way : (a b : A) → T (not (same a b)) → T (not (same b a))
  not-other-way a b h = not_T (same b a) (λ k. T_not (same a b) h (other_way b a k))

  pub distinct-keep : (p : A → Bool) (xs : List A) → T (distinct same xs) → T (distinct same (keep p xs))
  distinct-keep p [] h = tt
  distinct-keep p (x ∷ xs) h =
      let others : List A → Bool = every (λ y. not (same x y)) in
      let rest = distinct-keep p xs (and_right (others xs) (distinct same xs) h) in
      by-test (λ l. T (distinct same l)) (p x) (x ∷ keep p xs) (keep p xs)
      (λ t. and_make (others (keep p xs)) (distinct same (keep p xs)) (every-keep (λ y. not (same x y)) p xs (and_left (others xs) (distinct same xs) h)) rest)
      (λ t. rest)

  -- what is not there yet joins at the end
  pub distinct-end : (x : A) (xs : List A) → T (distinct same xs) → T (not (some? (same x) xs)) → T (distinct same (xs ++ (x ∷ [])))
  distinct-end x [] h k = tt
  distinct-end x (y ∷ xs) h k =
      let others : List A → Bool = every (λ z. not (same y z)) in
      let apart = not_or (same x y) (some? (same x) xs) k in
      and_make (others (xs ++ (x ∷ []))) (distinct same (xs ++ (x ∷ [])))
      (every-end (λ z. not (same y z)) x xs (and_left (others xs) (distinct same xs) h) (not-other-way x y apart.0))
      (distinct-end x xs (and_right (others xs) (distinct same xs) h) apart.1)

  -- what holds of all holds of one that is there
  pub all-at : (P : A → Type 0) (x : A) (xs : List A) → All P xs → T (some? (same x) xs) → P x
  all-at P x [] h k = absurd k
  all-at P x (y ∷ xs) h k = ⊎_elim (λ e. subst⁻¹ P (is x y e) h.0) (all-at P x xs h.1) (or_cases (same x y) (some? (same x) xs) k)
