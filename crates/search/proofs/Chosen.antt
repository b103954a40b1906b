-- Bindings with a tuple chosen for some variables.
use Prim.Native.Nat.{ℕ}
use mathlib.Core.Path.{◌≡◌, refl, sym, ◌∙◌, ap, subst, subst⁻¹, fun_ext}
use mathlib.Core.List.{List, [], ◌∷◌}
use mathlib.Core.Logic.{⊎_elim}
use mathlib.Core.Bool.{Bool, true, false, cond, not, ◌||◌}
use mathlib.Core.Option.{none, some}
use lib.Dec.{T, eqb, eqb→eq, eqb_refl, T_not}
use Rattle.definitions.specs.Lists.{is_in, every, distinct}
use Rattle.definitions.specs.Terms.{Term, Schema}
use Rattle.definitions.specs.Evaluate.{Bindings}
use Rattle.definitions.specs.Search.{Typing, Tuple, bind}
use Rattle.laws.proofs.Tests.{and_left, and_right, or_left, or_right, or_cases, is_true, is_false}
use Rattle.laws.proofs.Options.{some-not-none}
use Rattle.laws.specs.Bindings.{Holds, Fits}
use Rattle.seeking.specs.Seeking.{Keeps}
use Rattle.search.specs.Finding.{bind_to as set, clear, Once, Cleared}

pub cleared-set : (v i : ℕ) (vs : List ℕ) (γ : Bindings) → (T (is_in v vs) → ⊥) → Cleared (v ∷ vs) γ → Cleared vs (set v i γ)
cleared-set v i vs γ d c x m = go (eqb x v) (eqb→eq x v)
  where
    go : (b : Bool) → (T b → x ≡ v) → cond b (some i) (γ x) ≡ none
    go true e = absurd (d (subst (λ y. T (is_in y vs)) (e tt) m))
    go false e = c x (or_right (eqb x v) (is_in x vs) m)

pub keeps-bind : (vs : List ℕ) (t : Tuple) (γ : Bindings) → Cleared vs γ → Keeps γ (bind vs t γ)
unfolding bind
keeps-bind [] t γ c x i e = e
keeps-bind (v ∷ vs) [] γ c x i e = e
keeps-bind (v ∷ vs) (j ∷ t) γ c x i e = go (eqb x v) (λ b. c x b) (keeps-bind vs t γ (λ y m. c y (or_right (eqb y v) (is_in y vs) m)) x i e)
  where
    go : (b : Bool) → (T (b || is_in x vs) → γ x ≡ none) → bind vs t γ x ≡ some i → cond b (some j) (bind vs t γ x) ≡ some i
    go true n k = absurd (some-not-none e (n tt))
    go false n k = k

pub set_keeps : (w j : ℕ) (γ δ : Bindings) → Keeps γ δ → δ w ≡ some j → Keeps (set w j γ) δ
set_keeps w j γ δ u is x i e = go (eqb x w) (eqb→eq x w) e
  where
    go : (b : Bool) → (T b → x ≡ w) → cond b (some j) (γ x) ≡ some i → δ x ≡ some i
    go true s e = subst⁻¹ (λ y. δ y ≡ some i) (s tt) (is ∙ e)
    go false s e = u x i e

-- a variable set now or bound with the others, where it is none of them
pub set-bind-at : (v i : ℕ) (vs : List ℕ) (t : Tuple) (γ : Bindings) → (T (is_in v vs) → ⊥)
    → (x : ℕ) → cond (eqb x v) (some i) (bind vs t γ x) ≡ bind vs t (set v i γ) x
unfolding bind
set-bind-at v i [] t γ d x = refl
set-bind-at v i (w ∷ vs) [] γ d x = refl
set-bind-at v i (w ∷ vs) (j ∷ t) γ d x =
    go (eqb x v) (eqb→eq x v) (eqb x w) (eqb→eq x w) (set-bind-at v i vs t γ (λ m. d (or_right (eqb v w) (is_in v vs) m)) x)
  where
    apart : v ≡ w → ⊥
    apart e = d (or_left (eqb v w) (is_in v vs) (subst (λ y. T (eqb v y)) e (eqb_refl v)))

    go : (a : Bool) → (T a → x ≡ v) → (b : Bool) → (T b → x ≡ w) → cond a (some i) (bind vs t γ x) ≡ bind vs t (set v i γ) x
        → cond a (some i) (cond b (some j) (bind vs t γ x)) ≡ cond b (some j) (bind vs t (set v i γ) x)
    go true e true f h = absurd (apart (sym (e tt) ∙ f tt))
    go false e true f h = refl
    go true e false f h = h
    go false e false f h = h

module _ (S : Schema) (Γ : Typing) (terms : List Term) where
  -- what the tuple covers does not matter
  pub covered-bind : (vs : List ℕ) (t : Tuple) → Fits S Γ terms vs t → (β γ : Bindings) (x : ℕ) → (T (not (is_in x vs)) → β x ≡ γ x) → bind vs t β x ≡ bind vs t γ x
  unfolding bind
  covered-bind [] [] h β γ x k = k tt
  covered-bind [] (i ∷ t) h β γ x k = absurd h
  covered-bind (v ∷ vs) [] h β γ x k = absurd h
  covered-bind (v ∷ vs) (i ∷ t) h β γ x k = go (eqb x v) k (covered-bind vs t h.1 β γ x)
    where
      go : (b : Bool) → (T (not (b || is_in x vs)) → β x ≡ γ x) → ((T (not (is_in x vs)) → β x ≡ γ x) → bind vs t β x ≡ bind vs t γ x)
          → cond b (some i) (bind vs t β x) ≡ cond b (some i) (bind vs t γ x)
      go true k r = refl
      go false k r = r k

  -- a variable of the tuple has a number of its type
  pub record HasAt (δ : Bindings) (w : ℕ) : Type 0 where
    pub number : ℕ
    pub is : δ w ≡ some number
    pub typed : Holds S terms number (Γ w)

  pub tuple-has : (vs : List ℕ) (t : Tuple) (γ : Bindings) → Fits S Γ terms vs t → (w : ℕ) → T (is_in w vs) → HasAt (bind vs t γ) w
  unfolding bind
  tuple-has [] t γ h w m = absurd m
  tuple-has (v ∷ vs) [] γ h w m = absurd h
  tuple-has (v ∷ vs) (i ∷ t) γ h w m = go (eqb w v) (eqb→eq w v) m (tuple-has vs t γ h.1 w) refl
    where
      go : (b : Bool) → (T b → w ≡ v) → T (b || is_in w vs) → (T (is_in w vs) → HasAt (bind vs t γ) w) → eqb w v ≡ b → HasAt (bind (v ∷ vs) (i ∷ t) γ) w
      go true s m k e =
          record { number = i; is = ap (λ c. cond c (some i) (bind vs t γ w)) e; typed = subst⁻¹ (λ x. Holds S terms i (Γ x)) (s tt) h.0 }
      go false s m k e = let r = k m in record { number = r.number; is = ap (λ c. cond c (some i) (bind vs t γ w)) e ∙ r.is; typed = r.typed }

pub distinct-once : (vs : List ℕ) → T (distinct eqb vs) → Once vs
distinct-once [] h = tt
distinct-once (v ∷ vs) h =
    let others = every (λ y. not (eqb v y)) vs in
    (apart vs (and_left others (distinct eqb vs) h), distinct-once vs (and_right others (distinct eqb vs) h))
  where
    apart : (ws : List ℕ) → T (every (λ y. not (eqb v y)) ws) → T (is_in v ws) → ⊥
    apart [] h m = m
    apart (w ∷ ws) h m =
        let e = and_left (not (eqb v w)) (every (λ y. not (eqb v y)) ws) h in
        ⊎_elim (T_not (eqb v w) e) (apart ws (and_right (not (eqb v w)) (every (λ y. not (eqb v y)) ws) h)) (or_cases (eqb v w) (is_in v ws) m)

-- ── a block's own variables cleared ─────────────────────────────────────────────────────────

pub clear-cleared : (vs : List ℕ) (β : Bindings) → Cleared vs (clear vs β)
clear-cleared vs β x m = rw (is_true (is_in x vs) m) refl

pub clear-bind : (S : Schema) (Γ : Typing) (terms : List Term) (vs : List ℕ) (β : Bindings) (t : Tuple) → Fits S Γ terms vs t → bind vs t (clear vs β) ≡ bind vs t β
clear-bind S Γ terms vs β t h = fun_ext λ x. covered-bind S Γ terms vs t h (clear vs β) β x (λ k. rw (is_false (is_in x vs) k) refl)
