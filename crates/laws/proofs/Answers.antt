-- The search for an answer of a well typed block meets no fault, an answer's terms have the variables' types, and what binding it does.
use Prim.Native.Nat.{ℕ, zero, suc}
use mathlib.Core.Path.{◌≡◌, refl, subst, subst⁻¹}
use mathlib.Core.Logic.{◌⊎◌, inl, inr}
use mathlib.Core.List.{List, [], ◌∷◌, map}
use mathlib.Core.Bool.{Bool, true, false, cond, not, ◌&&◌, ◌||◌}
use mathlib.Core.Option.{Option, none, some}
use lib.Dec.{T, eqb, eqb→eq}
use lib.ListN.{length}
use Rattle.definitions.specs.Lists.{is_in}
use Rattle.definitions.specs.Types.{Ty}
use Rattle.definitions.specs.Terms.{Term, Schema, has_type}
use Rattle.definitions.specs.Tree.{Query}
use Rattle.definitions.specs.Scope.{in_query}
use Rattle.definitions.specs.Typing.{query_typed}
use Rattle.definitions.specs.Outcome.{Outcome, ok}
use Rattle.definitions.specs.Evaluate.{Setting, Bindings, Quad, query}
use Rattle.definitions.specs.Search.{Typing, Tuple, fitting, each_in_front, tuples, earlier, after, first, bind, answer}
use Rattle.definitions.specs.Calls.{constants_of}
use Rattle.laws.proofs.Tests.{and_make}
use Rattle.laws.specs.Lists.{All}
use Rattle.laws.proofs.All.{all_append, all-cond, all_keep, all_map}
use Rattle.laws.specs.Outcomes.{Fine, fine, Any}
use Rattle.laws.proofs.NoFault.{fine-then}
use Rattle.laws.specs.Bindings.{Extends, Holds, Bound, WellBound, BoundIn, Fits}
use Rattle.laws.proofs.Evaluate.{query-fine}
use Rattle.laws.specs.Sound.{QueryBounded}

-- a property of what there is, if there is something
abbrev pub IfSome : {A : Type 0} → (A → Type 0) → Option A → Type 0
IfSome P none = Unit {0}
IfSome P (some a) = P a

-- ── the tuples tried ────────────────────────────────────────────────────────────────────────

pub fitting-holds : (S : Schema) (τ : Ty) (terms : List Term) → All (λ i. Holds S terms i τ) (fitting S τ terms)
unfolding fitting
fitting-holds S τ [] = tt
fitting-holds S τ (t ∷ ts) =
    all-cond (λ i. Holds S (t ∷ ts) i τ) (has_type S t τ) zero (map suc (fitting S τ ts)) (λ h. record { term = t; there = refl; typed = h })
    (all_map (λ i. Holds S ts i τ) (λ i. Holds S (t ∷ ts) i τ) suc (λ i h. record { term = h.term; there = h.there; typed = h.typed })
    (fitting S τ ts) (fitting-holds S τ ts))

module _ (S : Schema) (Γ : Typing) (terms : List Term) where
  front_fits : (v : ℕ) (vs : List ℕ) (is : List ℕ) (ts : List Tuple) → All (λ i. Holds S terms i (Γ v)) is → All (Fits S Γ terms vs) ts
      → All (Fits S Γ terms (v ∷ vs)) (each_in_front is ts)
  unfolding each_in_front
  front_fits v vs [] ts h k = tt
  front_fits v vs (i ∷ is) ts h k =
      all_append (Fits S Γ terms (v ∷ vs)) (map (λ t. i ∷ t) ts) (each_in_front is ts)
      (all_map (Fits S Γ terms vs) (Fits S Γ terms (v ∷ vs)) (λ t. i ∷ t) (λ t x. (h.0, x)) ts k) (front_fits v vs is ts h.1 k)

  pub tuples-fit : (vs : List ℕ) → All (Fits S Γ terms vs) (tuples S Γ terms vs)
  unfolding tuples
  tuples-fit [] = (tt, tt)
  tuples-fit (v ∷ vs) = front_fits v vs (fitting S (Γ v) terms) (tuples S Γ terms vs) (fitting-holds S (Γ v) terms) (tuples-fit vs)

  pub after-fit : (vs : List ℕ) (last : Option Tuple) → All (Fits S Γ terms vs) (after last (tuples S Γ terms vs))
  unfolding after
  after-fit vs none = tuples-fit vs
  after-fit vs (some l) = all_keep (Fits S Γ terms vs) (earlier l) (tuples S Γ terms vs) (tuples-fit vs)

-- ── the first that passes ───────────────────────────────────────────────────────────────────

first_fine : (P : Tuple → Type 0) (test : Tuple → Outcome Bool) → ((t : Tuple) → P t → Fine Any (test t)) → (ts : List Tuple) → All P ts
    → Fine (IfSome P) (first test ts)
unfolding first
first_fine P test f [] h = fine tt
first_fine P test f (t ∷ ts) h = fine-then (f t h.0) λ holds u. go (first_fine P test f ts h.1) holds
  where
    go : Fine (IfSome P) (first test ts) → (b : Bool) → Fine (IfSome P) (elim b as (λ c. Outcome (Option Tuple)) [ true ↦ ok (some t) | false ↦ first test ts ])
    go later true = fine h.0
    go later false = later

-- ── binding an answer ───────────────────────────────────────────────────────────────────────

-- each bound variable still holds a term of its type
module _ (S : Schema) (Γ : Typing) (terms : List Term) (β : Bindings) where
  one-bound : (v i x : ℕ) → Holds S terms i (Γ v) → (o : Option ℕ) → ((j : ℕ) → o ≡ some j → Holds S terms j (Γ x))
      → (b : Bool) → (T b → x ≡ v) → (j : ℕ) → cond b (some i) o ≡ some j → Holds S terms j (Γ x)
  one-bound v i x h o k true same j e = subst⁻¹ (λ y. Holds S terms j (Γ y)) (same tt) (subst (λ y. Holds S terms y (Γ v)) (cc) h)
  one-bound v i x h o k false same j e = k j e

  pub bind-typed : (vs : List ℕ) (t : Tuple) → Fits S Γ terms vs t → WellBound S Γ terms β → WellBound S Γ terms (bind vs t β)
  unfolding bind
  bind-typed [] [] h w = w
  bind-typed [] (i ∷ t) h w = absurd h
  bind-typed (v ∷ vs) [] h w = absurd h
  bind-typed (v ∷ vs) (i ∷ t) h w = λ x j e.
      one-bound v i x h.0 (bind vs t β x) (bind-typed vs t h.1 w x) (eqb x v) (eqb→eq x v) j e

module _ (β : Bindings) where
  -- a variable that is bound afterwards is one of the block's, or has what it had
  pub bind-cases : (vs : List ℕ) (t : Tuple) (x j : ℕ) → bind vs t β x ≡ some j → T (is_in x vs) ⊎ (β x ≡ some j)
  unfolding bind
  bind-cases [] t x j e = inr e
  bind-cases (v ∷ vs) [] x j e = inr e
  bind-cases (v ∷ vs) (i ∷ t) x j e = go (eqb x v) (bind-cases vs t x j) e
    where
      go : (b : Bool) → (bind vs t β x ≡ some j → T (is_in x vs) ⊎ (β x ≡ some j)) → cond b (some i) (bind vs t β x) ≡ some j
          → T (b || is_in x vs) ⊎ (β x ≡ some j)
      go true later k = inl tt
      go false later k = later k

  stays-one : (b : Bool) (i : ℕ) (o : Option ℕ) → (j : ℕ) × (o ≡ some j) → (j : ℕ) × (cond b (some i) o ≡ some j)
  stays-one true i o h = (i, refl)
  stays-one false i o h = h

  stays : (vs : List ℕ) (t : Tuple) (x : ℕ) → (j : ℕ) × (β x ≡ some j) → (j : ℕ) × (bind vs t β x ≡ some j)
  unfolding bind
  stays [] t x h = h
  stays (v ∷ vs) [] x h = h
  stays (v ∷ vs) (i ∷ t) x h = stays-one (eqb x v) i (bind vs t β x) (stays vs t x h)

  -- bound variables stay bound
  pub bound-stays : (vs : List ℕ) (t : Tuple) (x : ℕ) → Bound β x → Bound (bind vs t β) x
  bound-stays vs t x b = let r = stays vs t x (b.number, b.is) in record { number = r.0; is = r.1 }

reached-one : (b c : Bool) (i : ℕ) (o : Option ℕ) (P : Type 0) → ((T (not c) → P) → (j : ℕ) × (o ≡ some j)) → (T (not (b || c)) → P)
    → (j : ℕ) × (cond b (some i) o ≡ some j)
reached-one true c i o P k h = (i, refl)
reached-one false c i o P k h = k h

module _ (S : Schema) (Γ : Typing) (terms : List Term) (β : Bindings) where
  reached : (vs : List ℕ) (t : Tuple) → Fits S Γ terms vs t → (x : ℕ) → (T (not (is_in x vs)) → (j : ℕ) × (β x ≡ some j)) → (j : ℕ) × (bind vs t β x ≡ some j)
  unfolding bind
  reached [] [] h x k = k tt
  reached [] (i ∷ t) h x k = absurd h
  reached (v ∷ vs) [] h x k = absurd h
  reached (v ∷ vs) (i ∷ t) h x k = reached-one (eqb x v) (is_in x vs) i (bind vs t β x) ((j : ℕ) × (β x ≡ some j)) (reached vs t h.1 x) k

  -- and a block's variables are bound by its answer
  pub bound-reached : (vs : List ℕ) (t : Tuple) → Fits S Γ terms vs t → (names : ℕ → Bool) → BoundIn β (λ v. not (is_in v vs) && names v)
      → BoundIn (bind vs t β) names
  bound-reached vs t h names b x m =
      let r = reached vs t h x (λ n. let y = b x (and_make (not (is_in x vs)) (names x) n m) in (y.number, y.is)) in
      record { number = r.0; is = r.1 }

-- ── the search ──────────────────────────────────────────────────────────────────────────────

module _ (σ : Setting) (Γ : Typing) (loaded terms : List Term) (extends : Extends loaded terms)
    (quads : List Quad) (β : Bindings) (well_bound : WellBound σ.schema Γ terms β) where
  pub answer-fine : (vs : List ℕ) (q : Query) → QueryBounded (length loaded) q → BoundIn β (λ v. not (is_in v vs) && in_query v q)
      → T (query_typed (constants_of σ.schema loaded) Γ q) → (last : Option Tuple) → Fine (IfSome (Fits σ.schema Γ terms vs)) (answer σ Γ terms quads β vs q last)
  unfolding answer
  answer-fine vs q k i h last =
      first_fine (Fits σ.schema Γ terms vs) (λ t. query σ terms quads (bind vs t β) q)
      (λ t fits. query-fine σ Γ loaded terms extends quads (bind vs t β) (bind-typed σ.schema Γ terms β vs t fits well_bound) q k
      (bound-reached σ.schema Γ terms β vs t fits (λ v. in_query v q) i) h)
      (after last (tuples σ.schema Γ terms vs)) (after-fit σ.schema Γ terms vs last)
