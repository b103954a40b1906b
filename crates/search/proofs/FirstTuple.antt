-- The search said without lists: where no tuple meets a fault, a block's answer is the first tuple, after the last one used, that fits and passes.
-- A faster search is proved equal to the machine's by this.
use Prim.Native.Nat.{ℕ}
use mathlib.Core.Path.{◌≡◌, refl, subst, subst⁻¹}
use mathlib.Core.List.Memᴰ
use mathlib.Core.List.{List, [], ◌∷◌}
use mathlib.Core.Bool.{Bool, true, false}
use mathlib.Core.Option.{Option, none, some}
use lib.Dec.{T}
use Rattle.definitions.specs.Terms.{Term}
use Rattle.definitions.specs.Tree.{Query}
use Rattle.definitions.specs.Scope.{in_query}
use Rattle.definitions.specs.Outcome.{Outcome, ok, fault, ◌>>=◌}
use Rattle.definitions.specs.Evaluate.{Setting, Bindings, Quad, query}
use Rattle.definitions.specs.Search.{Typing, Tuple, tuples, earlier, after, first, bind, answer}
use Rattle.laws.specs.Lists.{◌∈◌}
use Rattle.laws.proofs.Lists.{here, there}
use Rattle.laws.specs.Lists.{All}
use Rattle.laws.proofs.All.{all-weaken}
use Rattle.laws.specs.Outcomes.{Fine, fine, Any}
use Rattle.laws.specs.Bindings.{Fits}
use Rattle.laws.proofs.Evaluate.{query-fine}
use Rattle.laws.proofs.Answers.{after-fit, bind-typed, bound-reached}
use Rattle.query.specs.Known.{passes}
use Rattle.search.specs.Ready.{Ready}
use Rattle.search.specs.Finding.{First, is_after}
use Rattle.search.proofs.TupleOrder.{Pairwise, after_sorted, after-all, after-only}

pub first-map : (G H : Tuple → Type 0) → ((u : Tuple) → G u → H u) → ((u : Tuple) → H u → G u) → (o : Option Tuple) → First G o → First H o
first-map G H f g none h = λ u k. h u (g u k)
first-map G H f g (some t) h = (f t h.0, λ u k e. h.1 u (g u k) e)

-- ── the first of a sorted list that passes ──────────────────────────────────────────────────

all-at : {A : Type 0} (P : A → Type 0) {a : A} {xs : List A} → a ∈ xs → All P xs → P a
all-at P (Memᴰ.head e) h = subst⁻¹ P e h.0
all-at P (Memᴰ.tail m) h = all-at P m h.1

module _ (test : Tuple → Outcome Bool) where
  first-passing : (t : Tuple) (ts : List Tuple) → T (passes (test t)) → first test (t ∷ ts) ≡ ok (some t)
  unfolding first ◌>>=◌
  first-passing t ts h = go (test t) h
    where
      go : (m : Outcome Bool) → T (passes m)
          → (m >>= λ b. elim b as (λ c. Outcome (Option Tuple)) [ true ↦ ok (some t) | false ↦ first test ts ]) ≡ ok (some t)
      go (ok true) h = refl
      go (ok false) h = absurd h
      go (fault x) h = absurd h

  first-failing : (t : Tuple) (ts : List Tuple) → (T (passes (test t)) → ⊥) → Fine Any (test t) → first test (t ∷ ts) ≡ first test ts
  unfolding first ◌>>=◌
  first-failing t ts h k = go (test t) h k
    where
      go : (m : Outcome Bool) → (T (passes m) → ⊥) → Fine Any m
          → (m >>= λ b. elim b as (λ c. Outcome (Option Tuple)) [ true ↦ ok (some t) | false ↦ first test ts ]) ≡ first test ts
      go (ok true) h (fine p) = absurd (h tt)
      go (ok false) h (fine p) = refl
      go (fault _) h x3 = elim x3 [ ]

  module _ (t : Tuple) (passing : T (passes (test t))) where
    first-is : (ts : List Tuple) → All (λ u. Fine Any (test u)) ts → Pairwise earlier ts → ((u : Tuple) → u ∈ ts → T (earlier u t) → T (passes (test u)) → ⊥)
        → t ∈ ts → first test ts ≡ ok (some t)
    first-is [] f s k m = absurd (Memᴰ.not-nil m)
    first-is (x ∷ xs) f s k (Memᴰ.head e) =
        subst⁻¹ (λ y. first test (x ∷ xs) ≡ ok (some y)) e (first-passing x xs (subst (λ y. T (passes (test y))) e passing))
    first-is (x ∷ xs) f s k (Memᴰ.tail m) =
        rw (first-failing x xs (k x here (all-at (λ y. T (earlier x y)) m s.0)) f.0) (first-is xs f.1 s.1 (λ u n. k u (there n)) m)

  first-none : (ts : List Tuple) → All (λ u. Fine Any (test u)) ts → ((u : Tuple) → u ∈ ts → T (passes (test u)) → ⊥) → first test ts ≡ ok none
  unfolding first
  first-none [] f k = refl
  first-none (x ∷ xs) f k = rw (first-failing x xs (k x here) f.0) (first-none xs f.1 (λ u n. k u (there n)))

-- ── a block's answer ────────────────────────────────────────────────────────────────────────

module _ (σ : Setting) (Γ : Typing) (terms : List Term) (quads : List Quad) (β : Bindings) (vs : List ℕ) (q : Query)
    (ready : Ready σ.schema Γ terms β vs q) where
  abbrev tried : Tuple → Outcome Bool
  tried t = query σ terms quads (bind vs t β) q

  -- a tuple that fits, after the last, at which the query holds
  abbrev pub Good : Option Tuple → Tuple → Type 0
  Good last t = Fits σ.schema Γ terms vs t × T (is_after last t) × T (passes (tried t))

  tried-fine : (t : Tuple) → Fits σ.schema Γ terms vs t → Fine Any (tried t)
  tried-fine t h =
      query-fine σ Γ ready.loaded terms ready.extends quads (bind vs t β) (bind-typed σ.schema Γ terms β vs t h ready.well_bound) q ready.bounded
      (bound-reached σ.schema Γ terms β vs t h (λ v. in_query v q) ready.bound) ready.typed

  pub answer-first : (last : Option Tuple) (o : Option Tuple) → First (Good last) o → answer σ Γ terms quads β vs q last ≡ ok o
  unfolding answer
  answer-first last o h = go o h
    where
      ts : List Tuple
      ts = after last (tuples σ.schema Γ terms vs)

      fines : All (λ u. Fine Any (tried u)) ts
      fines = all-weaken (Fits σ.schema Γ terms vs) (λ u. Fine Any (tried u)) tried-fine ts (after-fit σ.schema Γ terms vs last)

      good : (u : Tuple) → u ∈ ts → T (passes (tried u)) → Good last u
      good u m p = (all-at (Fits σ.schema Γ terms vs) m (after-fit σ.schema Γ terms vs last), after-only σ.schema Γ terms vs last u m, p)

      go : (o : Option Tuple) → First (Good last) o → first tried ts ≡ ok o
      go none h = first-none tried ts fines (λ u m p. h u (good u m p))
      go (some t) h =
          first-is tried t h.0.2 ts fines (after_sorted σ.schema Γ terms vs last) (λ u m e p. h.1 u (good u m p) e)
          (after-all σ.schema Γ terms vs last t h.0.0 h.0.1)
