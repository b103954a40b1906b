-- The tuples tried stand in order, and every tuple of the variables' types is among them.
use Prim.Native.Nat.{ℕ, zero, suc}
use native.Mathlib.Omega.{arith}
use mathlib.Core.Path.{ap, subst⁻¹}
use mathlib.Core.List.Memᴰ
use mathlib.Core.List.{List, [], ◌∷◌, ◌++◌, map, Memᴰ}
use mathlib.Core.Bool.{Bool, true, false, cond, ◌&&◌}
use mathlib.Core.Option.{Option, none, some, none-ne-some, some-injective}
use lib.Dec.{T, eqb, ltb, eqb_refl, ltb→lt, lt→ltb}
use Rattle.definitions.specs.Lists.{keep}
use Rattle.definitions.specs.Types.{Ty}
use Rattle.definitions.specs.Terms.{Term, Schema, has_type}
use Rattle.definitions.specs.Values.{before}
use Rattle.definitions.specs.Search.{Typing, Tuple, fitting, each_in_front, tuples, earlier, after}
use Rattle.laws.proofs.Tests.{or_left, or_right, and_make}
use Rattle.laws.specs.Lists.{◌∈◌}
use Rattle.laws.proofs.Lists.{here, keep_at, keep-of}
use Rattle.laws.specs.Lists.{All}
use Rattle.laws.proofs.All.{all_append, all_keep, all_map}
use Rattle.laws.specs.Bindings.{Holds, Fits}
use Rattle.search.specs.Finding.{is_after}

-- ── each passes a test with every later one ─────────────────────────────────────────────────

abbrev pub Pairwise : {A : Type 0} → (A → A → Bool) → List A → Type 0
Pairwise r [] = Unit {0}
Pairwise r (x ∷ xs) = All (λ y. T (r x y)) xs × Pairwise r xs

module _ {A : Type 0} (r : A → A → Bool) where
  pairwise_append : (xs ys : List A) → Pairwise r xs → Pairwise r ys → All (λ x. All (λ y. T (r x y)) ys) xs → Pairwise r (xs ++ ys)
  pairwise_append [] ys h k m = k
  pairwise_append (x ∷ xs) ys h k m = (all_append (λ y. T (r x y)) xs ys h.0 m.0, pairwise_append xs ys h.1 k m.1)

  pairwise-cond : (b : Bool) (x : A) (xs : List A) → All (λ y. T (r x y)) xs → Pairwise r xs → Pairwise r (cond b (x ∷ xs) xs)
  pairwise-cond true x xs h k = (h, k)
  pairwise-cond false x xs h k = k

  pairwise-keep : (p : A → Bool) (xs : List A) → Pairwise r xs → Pairwise r (keep p xs)
  pairwise-keep p [] h = tt
  pairwise-keep p (x ∷ xs) h = pairwise-cond (p x) x (keep p xs) (all_keep (λ y. T (r x y)) p xs h.0) (pairwise-keep p xs h.1)

  pairwise_map : {B : Type 0} (q : B → B → Bool) (f : A → B) → ((a b : A) → T (r a b) → T (q (f a) (f b))) → (xs : List A) → Pairwise r xs
      → Pairwise q (map f xs)
  pairwise_map q f k [] h = tt
  pairwise_map q f k (x ∷ xs) h = (all_map (λ y. T (r x y)) (λ y. T (q (f x) y)) f (k x) xs h.0, pairwise_map q f k xs h.1)

-- what holds of every image holds of all of them
all-images : {A B : Type 0} (P : B → Type 0) (f : A → B) → ((a : A) → P (f a)) → (xs : List A) → All P (map f xs)
all-images P f k [] = tt
all-images P f k (x ∷ xs) = (k x, all-images P f k xs)

-- ── the order of tuples ─────────────────────────────────────────────────────────────────────

-- the first number decides
pub lower : (i j : ℕ) (s t : Tuple) → T (ltb i j) → T (earlier (i ∷ s) (j ∷ t))
unfolding before
lower i j s t h = or_left (ltb i j) (eqb i j && earlier s t) h

-- or, where it is the same, the others
pub alike : (i : ℕ) (s t : Tuple) → T (earlier s t) → T (earlier (i ∷ s) (i ∷ t))
unfolding before
alike i s t h = or_right (ltb i i) (eqb i i && earlier s t) (and_make (eqb i i) (earlier s t) (eqb_refl i) h)

suc-below : (a b : ℕ) → T (ltb a b) → T (ltb (suc a) (suc b))
suc-below a b h = lt→ltb (suc a) (suc b) (omega (arith, ltb→lt a b h))

zero-below : (b : ℕ) → T (ltb zero (suc b))
zero-below b = lt→ltb zero (suc b) (omega arith)

fitting-sorted : (S : Schema) (τ : Ty) (terms : List Term) → Pairwise ltb (fitting S τ terms)
unfolding fitting
fitting-sorted S τ [] = tt
fitting-sorted S τ (t ∷ ts) =
    pairwise-cond ltb (has_type S t τ) zero (map suc (fitting S τ ts))
    (all-images (λ i. T (ltb zero i)) suc zero-below (fitting S τ ts))
    (pairwise_map ltb ltb suc suc-below (fitting S τ ts) (fitting-sorted S τ ts))

front-later : (i : ℕ) (s : Tuple) (is : List ℕ) (ts : List Tuple) → All (λ j. T (ltb i j)) is → All (λ u. T (earlier (i ∷ s) u)) (each_in_front is ts)
unfolding each_in_front
front-later i s [] ts h = tt
front-later i s (j ∷ is) ts h =
    all_append (λ u. T (earlier (i ∷ s) u)) (map (λ t. j ∷ t) ts) (each_in_front is ts)
    (all-images (λ u. T (earlier (i ∷ s) u)) (λ t. j ∷ t) (λ t. lower i j s t h.0) ts)
    (front-later i s is ts h.1)

front-sorted : (is : List ℕ) (ts : List Tuple) → Pairwise ltb is → Pairwise earlier ts → Pairwise earlier (each_in_front is ts)
unfolding each_in_front
front-sorted [] ts h k = tt
front-sorted (i ∷ is) ts h k =
    pairwise_append earlier (map (λ t. i ∷ t) ts) (each_in_front is ts)
    (pairwise_map earlier earlier (λ t. i ∷ t) (alike i) ts k)
    (front-sorted is ts h.1 k)
    (all-images (λ u. All (λ y. T (earlier u y)) (each_in_front is ts)) (λ t. i ∷ t) (λ s. front-later i s is ts h.0) ts)

-- ── every tuple that fits is there ──────────────────────────────────────────────────────────

mem-map : {A B : Type 0} (f : A → B) {a : A} {xs : List A} → a ∈ xs → f a ∈ map f xs
mem-map f (Memᴰ.head e) = Memᴰ.head (ap f e)
mem-map f (Memᴰ.tail m) = Memᴰ.tail (mem-map f m)

mem-rest : {A : Type 0} (b : Bool) (x a : A) (xs : List A) → a ∈ xs → a ∈ cond b (x ∷ xs) xs
mem-rest true x a xs m = Memᴰ.tail m
mem-rest false x a xs m = m

mem-first : {A : Type 0} (b : Bool) (x : A) (xs : List A) → T b → x ∈ cond b (x ∷ xs) xs
mem-first true x xs h = here
mem-first false x xs h = absurd h

fitting-all : (S : Schema) (τ : Ty) (terms : List Term) (i : ℕ) → Holds S terms i τ → i ∈ fitting S τ terms
unfolding fitting
fitting-all S τ [] i h = absurd (none-ne-some h.term h.there)
fitting-all S τ (t ∷ ts) zero h =
    mem-first (has_type S t τ) zero (map suc (fitting S τ ts)) (subst⁻¹ (λ x. T (has_type S x τ)) (some-injective t h.term h.there) h.typed)
fitting-all S τ (t ∷ ts) (suc i) h =
    mem-rest (has_type S t τ) zero (suc i) (map suc (fitting S τ ts))
    (mem-map suc (fitting-all S τ ts i (record { term = h.term; there = h.there; typed = h.typed })))

front-all : {i : ℕ} {is : List ℕ} (t : Tuple) (ts : List Tuple) → i ∈ is → t ∈ ts → i ∷ t ∈ each_in_front is ts
unfolding each_in_front
front-all {i} t ts (Memᴰ.head {x = j} {xs = is} e) m =
    Memᴰ.append_left (each_in_front is ts) (subst⁻¹ (λ k. Memᴰ (k ∷ t) (map (λ u. j ∷ u) ts)) e (mem-map (λ u. j ∷ u) m))
front-all t ts (Memᴰ.tail {x = j} {xs = is} n) m = Memᴰ.append_right (map (λ u. j ∷ u) ts) (front-all t ts n m)

module _ (S : Schema) (Γ : Typing) (terms : List Term) where
  tuples-sorted : (vs : List ℕ) → Pairwise earlier (tuples S Γ terms vs)
  unfolding tuples
  tuples-sorted [] = (tt, tt)
  tuples-sorted (v ∷ vs) = front-sorted (fitting S (Γ v) terms) (tuples S Γ terms vs) (fitting-sorted S (Γ v) terms) (tuples-sorted vs)

  tuples-all : (vs : List ℕ) (t : Tuple) → Fits S Γ terms vs t → t ∈ tuples S Γ terms vs
  unfolding tuples
  tuples-all [] [] h = here
  tuples-all [] (i ∷ t) h = absurd h
  tuples-all (v ∷ vs) [] h = absurd h
  tuples-all (v ∷ vs) (i ∷ t) h = front-all t (tuples S Γ terms vs) (fitting-all S (Γ v) terms i h.0) (tuples-all vs t h.1)

  module _ (vs : List ℕ) where
    pub after_sorted : (last : Option Tuple) → Pairwise earlier (after last (tuples S Γ terms vs))
    unfolding after
    after_sorted none = tuples-sorted vs
    after_sorted (some l) = pairwise-keep earlier (earlier l) (tuples S Γ terms vs) (tuples-sorted vs)

    pub after-all : (last : Option Tuple) (t : Tuple) → Fits S Γ terms vs t → T (is_after last t) → t ∈ after last (tuples S Γ terms vs)
    unfolding after
    after-all none t h k = tuples-all vs t h
    after-all (some l) t h k = keep-of (earlier l) (tuples S Γ terms vs) t (tuples-all vs t h) k

    pub after-only : (last : Option Tuple) (t : Tuple) → t ∈ after last (tuples S Γ terms vs) → T (is_after last t)
    unfolding after
    after-only none t m = tt
    after-only (some l) t m = (keep_at (earlier l) (tuples S Γ terms vs) t m).1
