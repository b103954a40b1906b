-- The verdict without lists: typings, the greatest of them, and what each verdict says of them.
use mathlib.Core.Path.{◌≡◌, refl, ap, ap₂, sym, subst}
use mathlib.Core.Logic.{◌⊎◌, inl, inr, ◌↔◌}
use Prim.Native.Nat.{ℕ, zero, suc, ◌<◌}
use native.Mathlib.Omega.{arith}
use mathlib.Core.List.Memᴰ
use mathlib.Core.List.{List, [], ◌∷◌, map}
use mathlib.Core.Bool.{Bool, not}
use lib.Dec.{T}
use lib.ListN.{get_or, length}
use Rattle.definitions.specs.Lists.{every, some?}
use Rattle.definitions.specs.Types.{Ty, leq, same_type, all_types}
use Rattle.definitions.specs.Terms.{Sort}
use Rattle.definitions.specs.Tree.{Script}
use Rattle.definitions.specs.Typing.{script_typed, Written, unbound, undecided, fixed, choices, each_with, assignments, type_at, typings, above, Verdict, no_typing, no_greatest}
use Rattle.definitions.specs.Typing.{greatest, first_above, judge, verdict}
use Rattle.laws.proofs.Tests.{and_left, and_right, and_make, not_both, by-test}
use Rattle.laws.specs.Lists.{◌∈◌}
use Rattle.laws.proofs.Lists.{here, there, by-cons, by_append, every-at, every_of, some_at, keep_at, keep-of, elim-is-cond, those-is-keep}
use Rattle.laws.proofs.Order.{by_type, leq-antisym, same-type}
use Rattle.laws.specs.Typings.{Allowed, Fits, IsTyping, Says}

-- ── what is claimed ─────────────────────────────────────────────────────────────────────────

-- ── by variable ─────────────────────────────────────────────────────────────────────────────

pub fits-length : (ws : List Written) (Γ : List Ty) → Fits ws Γ → length Γ ≡ length ws
fits-length [] [] h = refl
fits-length [] (τ ∷ Γ) h = absurd h
fits-length (w ∷ ws) [] h = absurd h
fits-length (w ∷ ws) (τ ∷ Γ) h = ap suc (fits-length ws Γ h.1)

pub fits-at : (ws : List Written) (Γ : List Ty) → Fits ws Γ → (x : ℕ) → Allowed (get_or ws x unbound) (type_at Γ x)
fits-at [] [] h x = refl
fits-at [] (τ ∷ Γ) h x = absurd h
fits-at (w ∷ ws) [] h x = absurd h
fits-at (w ∷ ws) (τ ∷ Γ) h zero = h.0
fits-at (w ∷ ws) (τ ∷ Γ) h (suc x) = fits-at ws Γ h.1 x

pub fits-of : (ws : List Written) (Γ : List Ty) → length Γ ≡ length ws → ((x : ℕ) → x < length ws → Allowed (get_or ws x unbound) (type_at Γ x)) → Fits ws Γ
fits-of [] [] e f = tt
fits-of [] (τ ∷ Γ) e f = absurd (omega arith)
fits-of (w ∷ ws) [] e f = absurd (omega arith)
fits-of (w ∷ ws) (τ ∷ Γ) e f = (f 0 (omega arith), fits-of ws Γ (omega arith) (λ x l. f (suc x) (omega arith)))

pub above_at : (Γ Δ : List Ty) → T (above Γ Δ) → (x : ℕ) → T (leq (type_at Δ x) (type_at Γ x))
unfolding above
above_at [] [] h x = tt
above_at [] (σ ∷ Δ) h x = absurd h
above_at (τ ∷ Γ) [] h x = absurd h
above_at (τ ∷ Γ) (σ ∷ Δ) h zero = and_left (leq σ τ) (above Γ Δ) h
above_at (τ ∷ Γ) (σ ∷ Δ) h (suc x) = above_at Γ Δ (and_right (leq σ τ) (above Γ Δ) h) x

pub above_of : (Γ Δ : List Ty) → length Γ ≡ length Δ → ((x : ℕ) → x < length Γ → T (leq (type_at Δ x) (type_at Γ x))) → T (above Γ Δ)
unfolding above
above_of [] [] e f = tt
above_of [] (σ ∷ Δ) e f = absurd (omega arith)
above_of (τ ∷ Γ) [] e f = absurd (omega arith)
above_of (τ ∷ Γ) (σ ∷ Δ) e f = and_make (leq σ τ) (above Γ Δ) (f 0 (omega arith)) (above_of Γ Δ (omega arith) (λ x l. f (suc x) (omega arith)))

-- ── the assignments are the choices that fit ────────────────────────────────────────────────

each_at : (τs : List Ty) (Δs : List (List Ty)) (Γ : List Ty) → Γ ∈ each_with τs Δs → (τ : Ty) × (Δ : List Ty) × (τ ∈ τs) × (Δ ∈ Δs) × (Γ ≡ τ ∷ Δ)
unfolding each_with
each_at [] Δs = λ Γ m. absurd (Memᴰ.not-nil m)
each_at (τ ∷ τs) Δs =
    by_append (map (λ Δ. τ ∷ Δ) Δs)
    (λ Γ m. let r = Memᴰ.of_map (λ Δ. τ ∷ Δ) Δs m in (τ, r.0, here, r.1, sym r.2))
    (λ Γ m. let r = each_at τs Δs Γ m in (r.0, r.1, there r.2, r.3, r.4))

each_of : (τs : List Ty) (Δs : List (List Ty)) (Δ : List Ty) → Δ ∈ Δs → (τ : Ty) → τ ∈ τs → τ ∷ Δ ∈ each_with τs Δs
unfolding each_with
each_of [] Δs Δ k = λ τ m. absurd (Memᴰ.not-nil m)
each_of (σ ∷ τs) Δs Δ k =
    by-cons (Memᴰ.append_left (each_with τs Δs) (Memᴰ.map (λ Δ. σ ∷ Δ) k))
    (λ τ m. Memᴰ.append_right (map (λ Δ. σ ∷ Δ) Δs) (each_of τs Δs Δ k τ m))

in-all-types : (τ : Ty) → τ ∈ all_types
in-all-types τ =
    let r = some_at (same_type τ) all_types (by_type (λ τ. some? (same_type τ) all_types) tt τ) in
    subst (λ σ. σ ∈ all_types) (sym (same-type τ r.0 r.2)) r.1

choices-of : (w : Written) (τ : Ty) → Allowed w τ → τ ∈ choices w
choices-of unbound τ e = Memᴰ.head e
choices-of undecided τ e = in-all-types τ
choices-of (fixed σ) τ e = Memᴰ.head e

choices-at : (w : Written) (τ : Ty) → τ ∈ choices w → Allowed w τ
choices-at unbound τ m = Memᴰ.eq_of_singleton m
choices-at undecided τ m = tt
choices-at (fixed σ) τ m = Memᴰ.eq_of_singleton m

assignments-of : (ws : List Written) (Γ : List Ty) → Fits ws Γ → Γ ∈ assignments ws
unfolding assignments
assignments-of [] [] h = here
assignments-of [] (τ ∷ Γ) h = absurd h
assignments-of (w ∷ ws) [] h = absurd h
assignments-of (w ∷ ws) (τ ∷ Γ) h = each_of (choices w) (assignments ws) Γ (assignments-of ws Γ h.1) τ (choices-of w τ h.0)

assignments-at : (ws : List Written) (Γ : List Ty) → Γ ∈ assignments ws → Fits ws Γ
unfolding assignments
assignments-at [] Γ m = subst (Fits []) (sym (Memᴰ.eq_of_singleton m)) tt
assignments-at (w ∷ ws) Γ m =
    let r = each_at (choices w) (assignments ws) Γ m in
    subst (Fits (w ∷ ws)) (sym r.4) (choices-at w r.0 r.2, assignments-at ws r.1 r.3)

module _ (constants : ℕ → Sort) (ws : List Written) (s : Script) (Γ : List Ty) where
  abbrev test : List Ty → Bool
  test Δ = script_typed constants (type_at Δ) s

  typings-of : IsTyping constants ws s Γ → Γ ∈ typings constants ws s
  unfolding typings
  typings-of h = subst (λ l. Γ ∈ l) (sym (those-is-keep test (assignments ws))) (keep-of test (assignments ws) Γ (assignments-of ws Γ h.0) h.1)

  typings-at : Γ ∈ typings constants ws s → IsTyping constants ws s Γ
  unfolding typings
  typings-at m =
      let r = keep_at test (assignments ws) Γ (subst (λ l. Γ ∈ l) (those-is-keep test (assignments ws)) m) in
      (assignments-at ws Γ r.0, r.1)

-- ── what `judge` says of a list ─────────────────────────────────────────────────────────────

-- of a part of all that holds each greatest one
first_says : (part all : List (List Ty)) → ((Γ : List Ty) → Γ ∈ part → Γ ∈ all) → ((Γ : List Ty) → Γ ∈ all → T (every (above Γ) all) → Γ ∈ part)
    → (Γ : List Ty) × (Γ ∈ all) → Says (λ Γ. Γ ∈ all) (first_above part all)
unfolding first_above
first_says [] all sub rest some = (some, λ Γ g. Memᴰ.not-nil (rest Γ g.0 (every_of (above Γ) all g.1)))
first_says (Γ ∷ part) all sub rest some =
    subst (Says (λ Γ. Γ ∈ all)) (sym (elim-is-cond (every (above Γ) all) (greatest Γ) (first_above part all)))
    (by-test (Says (λ Γ. Γ ∈ all)) (every (above Γ) all) (greatest Γ) (first_above part all)
    (λ t. (sub Γ here, every-at (above Γ) all t))
    (λ f. first_says part all (λ Δ m. sub Δ (there m)) (λ Δ m t. later f Δ t (Memᴰ.cases_cons (rest Δ m t))) some))
  where
    later : T (not (every (above Γ) all)) → (Δ : List Ty) → T (every (above Δ) all) → (Δ ≡ Γ) ⊎ (Δ ∈ part) → Δ ∈ part
    later f Δ t (inl e) = absurd (not_both (every (above Γ) all) (subst (λ Θ. T (every (above Θ) all)) e t) f)
    later f Δ t (inr m) = m

judge-says : (Γs : List (List Ty)) → Says (λ Γ. Γ ∈ Γs) (judge Γs)
unfolding judge
judge-says [] = λ Γ m. Memᴰ.not-nil m
judge-says (Γ ∷ Γs) = first_says (Γ ∷ Γs) (Γ ∷ Γs) (λ Δ m. m) (λ Δ m t. m) (Γ, here)

-- ── a verdict is what it says ───────────────────────────────────────────────────────────────

above-antisym : (Γ Δ : List Ty) → T (above Γ Δ) → T (above Δ Γ) → Γ ≡ Δ
unfolding above
above-antisym [] [] p q = refl
above-antisym [] (σ ∷ Δ) p q = absurd p
above-antisym (τ ∷ Γ) [] p q = absurd p
above-antisym (τ ∷ Γ) (σ ∷ Δ) p q =
    ap₂ ◌∷◌ (same-type τ σ (leq-antisym τ σ (and_left (leq τ σ) (above Δ Γ) q) (and_left (leq σ τ) (above Γ Δ) p)))
    (above-antisym Γ Δ (and_right (leq σ τ) (above Γ Δ) p) (and_right (leq τ σ) (above Δ Γ) q))

module _ (Is : List Ty → Type 0) where
  pub says-one : (v w : Verdict) → Says Is v → Says Is w → v ≡ w
  says-one no_typing no_typing p q = refl
  says-one no_typing no_greatest p q = absurd (p q.0.0 q.0.1)
  says-one no_typing (greatest Δ) p q = absurd (p Δ q.0)
  says-one no_greatest no_typing p q = absurd (q p.0.0 p.0.1)
  says-one no_greatest no_greatest p q = refl
  says-one no_greatest (greatest Δ) p q = absurd (p.1 Δ q)
  says-one (greatest Γ) no_typing p q = absurd (q Γ p.0)
  says-one (greatest Γ) no_greatest p q = absurd (q.1 Γ p)
  says-one (greatest Γ) (greatest Δ) p q = ap greatest (above-antisym Γ Δ (p.1 Δ q.0) (q.1 Γ p.0))

  says_same : (Are : List Ty → Type 0) → ((Γ : List Ty) → Is Γ → Are Γ) → ((Γ : List Ty) → Are Γ → Is Γ) → (v : Verdict) → Says Is v → Says Are v
  says_same Are to of no_typing p = λ Γ a. p Γ (of Γ a)
  says_same Are to of no_greatest p = ((p.0.0, to p.0.0 p.0.1), λ Γ g. p.1 Γ (of Γ g.0, λ Δ i. g.1 Δ (to Δ i)))
  says_same Are to of (greatest Γ) p = (to Γ p.0, λ Δ a. p.1 Δ (of Δ a))

pub verdict-says : (constants : ℕ → Sort) (ws : List Written) (s : Script) → Says (IsTyping constants ws s) (verdict constants ws s)
unfolding verdict
verdict-says constants ws s =
    says_same (λ Γ. Γ ∈ typings constants ws s) (IsTyping constants ws s) (typings-at constants ws s) (typings-of constants ws s)
    (judge (typings constants ws s)) (judge-says (typings constants ws s))

-- the verdict is the one that says what is so
pub verdict-is : (constants : ℕ → Sort) (ws : List Written) (s : Script) (v : Verdict) → (verdict constants ws s ≡ v) ↔ Says (IsTyping constants ws s) v
verdict-is constants ws s v = (
  λ e. subst (Says (IsTyping constants ws s)) e (verdict-says constants ws s),
  λ r. says-one (IsTyping constants ws s) (verdict constants ws s) v (verdict-says constants ws s) r,
)
