-- A script with a type written at a variable: its scope and its rules are as before, and of its written types that one has changed.
use Prim.Native.Nat.{ℕ, ◌<◌}
use native.Mathlib.Decide.{ℕ_discrete}
use native.Mathlib.Omega.{arith}
use mathlib.Core.Path.{◌≡◌, refl, sym, ap, ap₂, subst, ◌∙◌, fun_ext}
use mathlib.Core.Logic.{⊎_elim}
use mathlib.Core.List.{List, [], ◌∷◌, ◌++◌, map}
use mathlib.Core.Bool.{Bool, true, false, not, ◌&&◌, ◌||◌}
use mathlib.Core.Option.{Option, some}
use lib.Dec.{T, eqb, eqb→eq, not_T}
use lib.ListN.{length, get_or, set, length-set}
use lib.Seq.{get_or-set_same, get_or-set_other}
use borrow.Author.Tests.{eq-eqb, ne_eqb, eqb-true, eqb-false}
use Rattle.definitions.specs.Limits.{variable_limit}
use Rattle.definitions.specs.Lists.{every, distinct, is_in}
use Rattle.definitions.specs.Types.{Ty, plain, any_uri}
use Rattle.definitions.specs.Terms.{Sort}
use Rattle.definitions.specs.Tree.{Binder, Script, success, from_named, block, sequence}
use Rattle.definitions.specs.Scope.{variables, variables_of, in_name, in_query, is_free, binders_of, in_scope}
use Rattle.definitions.specs.Typing.{name_has, query_typed, script_typed, Written, unbound, fixed, annotated, written_in, written_types, assignments, type_at, those, typings, judge, verdict}
use Rattle.laws.proofs.Tests.{and_left, and_right, and_make, or_cases, or_left, or_right, is_true, true_is, not_both}
use Rattle.laws.proofs.Variables.{at-variable, made-is}
use Rattle.laws.proofs.Check.{variable-count}

-- ── among the variables of pairs ────────────────────────────────────────────────────────────

in-append : (v : ℕ) (xs ys : List ℕ) → is_in v (xs ++ ys) ≡ is_in v xs || is_in v ys
in-append v [] ys = refl
in-append v (x ∷ xs) ys = ap (λ (b : Bool). eqb v x || b) (in-append v xs ys) ∙ or_assoc (eqb v x) (is_in v xs) (is_in v ys)
  where
    or_assoc : (a b c : Bool) → (a || (b || c)) ≡ ((a || b) || c)
    or_assoc true b c = refl
    or_assoc false b c = refl

variables-append : (bs cs : List Binder) → variables_of (bs ++ cs) ≡ variables_of bs ++ variables_of cs
variables-append [] cs = refl
variables-append (b ∷ bs) cs = ap (λ (l : List ℕ). b.variable ∷ l) (variables-append bs cs)

pub bound-append : (v : ℕ) (bs cs : List Binder) → is_in v (variables_of (bs ++ cs)) ≡ is_in v (variables_of bs) || is_in v (variables_of cs)
bound-append v bs cs = ap (is_in v) (variables-append bs cs) ∙ in-append v (variables_of bs) (variables_of cs)

-- a variable that none of the pairs binds is bound by none of a part of them
pub absent-parts : (v : ℕ) (bs cs : List Binder) → T (not (is_in v (variables_of (bs ++ cs)))) → T (not (is_in v (variables_of bs))) × T (not (is_in v (variables_of cs)))
absent-parts v bs cs h =
    let first = is_in v (variables_of bs) in
    let second = is_in v (variables_of cs) in
    let k = subst (λ (b : Bool). T (not b)) (bound-append v bs cs) h in
    (not_T first (λ q. not_both (first || second) (or_left first second q) k), not_T second (λ q. not_both (first || second) (or_right first second q) k))

-- one that pairs of which no two bind the same variable bind in one part is not bound in the other
pub bound-once : (bs cs : List Binder) → T (distinct eqb (variables_of (bs ++ cs)))
    → T (distinct eqb (variables_of bs)) × T (distinct eqb (variables_of cs)) × ((v : ℕ) → T (is_in v (variables_of bs)) → T (not (is_in v (variables_of cs))))
bound-once [] cs h = (tt, h, λ v k. absurd k)
bound-once (b ∷ bs) cs h =
    let x = b.variable in
    let others : List Binder → Bool = λ l. every (λ y. not (eqb x y)) (variables_of l) in
    let rest = bound-once bs cs (and_right (others (bs ++ cs)) (distinct eqb (variables_of (bs ++ cs))) h) in
    let apart = absent-parts x bs cs (none_in x (bs ++ cs) (and_left (others (bs ++ cs)) (distinct eqb (variables_of (bs ++ cs))) h)) in (
      and_make (others bs) (distinct eqb (variables_of bs)) (in-none x bs apart.0) rest.0,
      rest.1,
      λ v k. ⊎_elim
          (λ e. subst (λ (w : ℕ). T (not (is_in w (variables_of cs)))) (sym (eqb→eq v x e)) apart.1)
          (rest.2 v)
          (or_cases (eqb v x) (is_in v (variables_of bs)) k),
    )
  where
    none_in : (x : ℕ) (l : List Binder) → T (every (λ y. not (eqb x y)) (variables_of l)) → T (not (is_in x (variables_of l)))
    none_in x [] h = tt
    none_in x (b ∷ l) h =
        let t = eqb x b.variable in
        not_T (t || is_in x (variables_of l)) (λ q. ⊎_elim
        (λ e. not_both t e (and_left (not t) (every (λ y. not (eqb x y)) (variables_of l)) h))
        (λ e. not_both (is_in x (variables_of l)) e (none_in x l (and_right (not t) (every (λ y. not (eqb x y)) (variables_of l)) h)))
        (or_cases t (is_in x (variables_of l)) q))

    in-none : (x : ℕ) (l : List Binder) → T (not (is_in x (variables_of l))) → T (every (λ y. not (eqb x y)) (variables_of l))
    in-none x [] h = tt
    in-none x (b ∷ l) h =
        let t = eqb x b.variable in
        let rest = is_in x (variables_of l) in
        and_make (not t) (every (λ y. not (eqb x y)) (variables_of l))
        (not_T t (λ q. not_both (t || rest) (or_left t rest q) h)) (in-none x l (not_T rest (λ q. not_both (t || rest) (or_right t rest q) h)))

-- ── the script ──────────────────────────────────────────────────────────────────────────────

module _ (y : ℕ) (τ : Ty) where
  abbrev pub retype_if : Bool → Binder → Binder
  retype_if t b = elim t [ true ↦ record { variable = b.variable; written = some τ } | false ↦ b ]

  abbrev pub retype : Binder → Binder
  retype b = retype_if (eqb b.variable y) b

  unfoldable pub retyped : Script → Script
  retyped (success at) = success at
  retyped (from_named at n c) = from_named at n (retyped c)
  retyped (block at each bs q c) = block at each (map retype bs) q (retyped c)
  retyped (sequence at c d) = sequence at (retyped c) (retyped d)

  -- ── the variables that pairs bind ─────────────────────────────────────────────────────────

  variable-same : (t : Bool) (b : Binder) → (retype_if t b).variable ≡ b.variable
  variable-same true b = refl
  variable-same false b = refl

  variables-same : (bs : List Binder) → variables_of (map retype bs) ≡ variables_of bs
  variables-same [] = refl
  variables-same (b ∷ bs) = ap₂ {C = List ℕ} ◌∷◌ (variable-same (eqb b.variable y) b) (variables-same bs)

  map-append : (bs cs : List Binder) → map retype (bs ++ cs) ≡ map retype bs ++ map retype cs
  map-append [] cs = refl
  map-append (b ∷ bs) cs = ap (λ (l : List Binder). retype b ∷ l) (map-append bs cs)

  binders-are : (c : Script) → binders_of (retyped c) ≡ map retype (binders_of c)
  unfolding retyped binders_of
  binders-are (success at) = refl
  binders-are (from_named at n c) = binders-are c
  binders-are (block at each bs q c) = ap (λ (l : List Binder). map retype bs ++ l) (binders-are c) ∙ sym (map-append bs (binders_of c))
  binders-are (sequence at c d) = ap₂ {C = List Binder} ◌++◌ (binders-are c) (binders-are d) ∙ sym (map-append (binders_of c) (binders_of d))

  -- ── scope ─────────────────────────────────────────────────────────────────────────────────

  free-same : (v : ℕ) (c : Script) → is_free v (retyped c) ≡ is_free v c
  unfolding retyped is_free
  free-same v (success at) = refl
  free-same v (from_named at n c) = ap (λ (b : Bool). in_name v n || b) (free-same v c)
  free-same v (block at each bs q c) = λ i. not (is_in v (variables-same bs i)) && (in_query v q || free-same v c i)
  free-same v (sequence at c d) = ap₂ {C = Bool} ◌||◌ (free-same v c) (free-same v d)

  pub scope-same : (c : Script) → in_scope (retyped c) ≡ in_scope c
  unfolding in_scope
  scope-same c = λ i.
      every (λ v. not (free-same v c i)) variables && distinct eqb ((ap variables_of (binders-are c) ∙ variables-same (binders_of c)) i)

  -- ── typing ────────────────────────────────────────────────────────────────────────────────

  module _ (constants : ℕ → Sort) where
    typed-same : (Γ : ℕ → Ty) (c : Script) → script_typed constants Γ (retyped c) ≡ script_typed constants Γ c
    unfolding retyped script_typed
    typed-same Γ (success at) = refl
    typed-same Γ (from_named at n c) = ap (λ (b : Bool). name_has constants Γ n (plain any_uri) && b) (typed-same Γ c)
    typed-same Γ (block at each bs q c) = ap (λ (b : Bool). query_typed constants Γ q && b) (typed-same Γ c)
    typed-same Γ (sequence at c d) = ap₂ {C = Bool} ◌&&◌ (typed-same Γ c) (typed-same Γ d)

    pub verdict-same : (ws : List Written) (c : Script) → verdict constants ws (retyped c) ≡ verdict constants ws c
    unfolding verdict typings
    verdict-same ws c = ap (λ (p : List Ty → Bool). judge (those p (assignments ws))) (fun_ext (λ Γ. typed-same (type_at Γ) c))

  -- ── written types ─────────────────────────────────────────────────────────────────────────

  written-else : (bs : List Binder) (v : ℕ) → (v ≡ y → ⊥) → written_in (map retype bs) v ≡ written_in bs v
  unfolding written_in
  written-else [] v n = refl
  written-else (b ∷ bs) v n = go (eqb b.variable y) refl (written-else bs v n)
    where
      if_bound : Binder → Written → Written
      if_bound b w = elim (eqb b.variable v) as (λ c. Written) [ true ↦ annotated b.written | false ↦ w ]

      go : (t : Bool) → eqb b.variable y ≡ t → {w u : Written} → w ≡ u → if_bound (retype_if t b) w ≡ if_bound b u
      go true e {w} {u} h =
          let other = ne_eqb b.variable v (λ q. n (sym q ∙ eqb-true b.variable y e)) in
          ap (λ (c : Bool). elim c as (λ c. Written) [ true ↦ annotated (some τ) | false ↦ w ]) other
          ∙ h ∙ sym (ap (λ (c : Bool). elim c as (λ c. Written) [ true ↦ annotated b.written | false ↦ u ]) other)
      go false e h = ap (if_bound b) h

  written-here : (bs : List Binder) → T (is_in y (variables_of bs)) → written_in (map retype bs) y ≡ fixed τ
  unfolding written_in
  written-here [] h = absurd h
  written-here (b ∷ bs) h = go (eqb b.variable y) refl (written-here bs)
    where
      go : (t : Bool) → eqb b.variable y ≡ t → (T (is_in y (variables_of bs)) → written_in (map retype bs) y ≡ fixed τ)
          → (elim (eqb (retype_if t b).variable y) as (λ c. Written) [ true ↦ annotated (retype_if t b).written | false ↦ written_in (map retype bs) y ]) ≡ fixed τ
      go true e later = ap (λ (c : Bool). elim c as (λ c. Written) [ true ↦ annotated (some τ) | false ↦ written_in (map retype bs) y ]) e
      go false e later =
          ap (λ (c : Bool). elim c as (λ c. Written) [ true ↦ annotated b.written | false ↦ written_in (map retype bs) y ]) e
          ∙ later (⊎_elim (λ q. absurd (eqb-false b.variable y e (sym (eqb-true y b.variable (is_true (eqb y b.variable) q))))) (λ q. q)
          (or_cases (eqb y b.variable) (is_in y (variables_of bs)) h))

  pub types-written : (c : Script) → T (is_in y (variables_of (binders_of c))) → y < variable_limit → written_types (retyped c) ≡ set (written_types c) y (fixed τ)
  unfolding written_types
  types-written c h l =
      made-is unbound (written_in (binders_of (retyped c))) (set (written_types c) y (fixed τ)) (length-set (written_types c) y (fixed τ) ∙ variable-count c)
      (λ v m. ap (λ (bs : List Binder). written_in bs v) (binders-are c) ∙ at v m (ℕ_discrete v y))
    where
      at : (v : ℕ) → v < variable_limit → Dec (v ≡ y) → written_in (map retype (binders_of c)) v ≡ get_or (set (written_types c) y (fixed τ)) v unbound
      at v m (yes e) =
          ap (written_in (map retype (binders_of c))) e ∙ written-here (binders_of c) h
          ∙ sym (ap (λ (k : ℕ). get_or (set (written_types c) y (fixed τ)) k unbound) e
          ∙ get_or-set_same (written_types c) y (fixed τ) unbound (omega (arith, l, variable-count c)))
      at v m (no n) =
          written-else (binders_of c) v n ∙ sym (get_or-set_other (written_types c) y v (fixed τ) unbound n ∙ at-variable (written_in (binders_of c)) unbound v m)

  -- ── where no pair binds the variable ──────────────────────────────────────────────────────

  pub binders-absent : (bs : List Binder) → T (not (is_in y (variables_of bs))) → map retype bs ≡ bs
  binders-absent [] h = refl
  binders-absent (b ∷ bs) h =
      let e = eqb y b.variable in
      let rest = is_in y (variables_of bs) in
      ap₂ {C = List Binder} ◌∷◌
      (ap (λ (t : Bool). retype_if t b) (ne_eqb b.variable y (λ q. not_both (e || rest) (or_left e rest (true_is e (eq-eqb y b.variable (sym q)))) h)))
      (binders-absent bs (not_T rest (λ q. not_both (e || rest) (or_right e rest q) h)))

  pub script-absent : (c : Script) → T (not (is_in y (variables_of (binders_of c)))) → retyped c ≡ c
  unfolding retyped binders_of
  script-absent (success at) h = refl
  script-absent (from_named at n c) h = ap (from_named at n) (script-absent c h)
  script-absent (block at each bs q c) h =
      let k = absent-parts y bs (binders_of c) h in
      ap₂ (λ (bs : List Binder) (c : Script). block at each bs q c) (binders-absent bs k.0) (script-absent c k.1)
  script-absent (sequence at c d) h =
      let k = absent-parts y (binders_of c) (binders_of d) h in
      ap₂ {C = Script} (sequence at) (script-absent c k.0) (script-absent d k.1)
