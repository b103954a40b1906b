-- The verdict that is read off a script's tables is the verdict.
use mathlib.Core.Path.{◌≡◌, refl, ap, sym, ◌∙◌, subst, fun_ext}
use mathlib.Core.Logic.{◌⊎◌, inl, inr, ⊎_elim, ◌↔◌}
use Prim.Native.Nat.{ℕ, zero, suc, ◌≤◌, ◌<◌}
use native.Mathlib.Omega.{arith}
use mathlib.Core.List.{List, map}
use mathlib.Core.Bool.{Bool, true, false, cond, not, ◌||◌}
use lib.Dec.{T, eqb, ltb, eqb→eq, ltb→lt, lt→ltb, lit<}
use lib.ListN.{get_or, length, get_or-eq_default}
use borrow.Author.Tests.{eq-eqb}
use Rattle.definitions.specs.Limits.{variable_limit}
use Rattle.definitions.specs.Types.{Datatype, any_uri, decimal, date_time, integer, Ty, plain, range, leq}
use Rattle.definitions.specs.Terms.{Sort}
use Rattle.definitions.specs.Tree.{Name, var, const, Script}
use Rattle.definitions.specs.Scope.{variables}
use Rattle.definitions.specs.Typing.{Written, unbound, undecided, fixed, is_open, type_at, above, Verdict, no_typing, no_greatest, greatest, verdict}
use Rattle.laws.proofs.Variables.{at-variable, made-is}
use Rattle.laws.proofs.Tests.{and_left, and_right, and_make, not_both, true_is, false_is, by-test}
use Rattle.laws.proofs.Order.{leq-refl, leq-trans, leq-antisym, same-type}
use Rattle.laws.proofs.TestEquations.{passes-if}
use Rattle.laws.proofs.Ranges.{split}
use Rattle.laws.specs.Typings.{Allowed as AllowedBy, Fits, IsTyping, IsGreatest, Says}
use Rattle.laws.proofs.Typings.{fits-length, fits-at, fits-of, above_at, above_of, verdict-is}
use Rattle.facts.specs.Demands.{script_demands}
use Rattle.facts.specs.declared.noting.Tables.{Tables}
use Rattle.facts.specs.Tables.{family_limit, own_node, range_node, edge_at, written_place, place}
use Rattle.laws.specs.Lists.{flag}
use Rattle.facts.specs.Infer.{all_below, chosen, of_family, made, root, apart, settled, tight, decided, best, best_types, read_off, tables_of, infer}
use Rattle.facts.proofs.Demands.{name_type, script-met}
use Rattle.facts.proofs.Tables.{Environment, Satisfies, Open, Sound}
use Rattle.facts.proofs.NotingLaws.{type_in, tables-sound, tables-say}
use Rattle.facts.proofs.Solve.{Choice, solution, Allowed, greatest as greatest_choice, own_greatest, Settled, Tight, own-allowed, satisfied-apart, solution-satisfies}
use Rattle.facts.proofs.Solve.{greatest-allowed, greatest-above, all_settled, all-tight}

-- ── the tests on the tables ─────────────────────────────────────────────────────────────────

pub below-says : (n : ℕ) (f : ℕ → Bool) → T (all_below n f) ↔ ((x : ℕ) → x < n → T (f x))
unfolding all_below
below-says zero f = (λ h x l. absurd (omega arith), λ h. tt)
below-says (suc n) f = (
  λ h x l. ⊎_elim
      (λ k. subst (λ y. T (f y)) (let e : n ≡ x = omega arith in e) (and_right (all_below n f) (f n) h))
      ((below-says n f).0 (and_left (all_below n f) (f n) h) x)
      (split n x),
  λ h. and_make (all_below n f) (f n) ((below-says n f).1 (λ x l. h x (omega arith))) (h n (omega arith)),
)

open-says : (w : Written) → T (is_open w) ↔ (w ≡ undecided)
open-says unbound = (λ h. absurd h, λ e. subst (λ w. T (is_open w)) (sym e) tt)
open-says undecided = (λ h. refl, λ e. tt)
open-says (fixed τ) = (λ h. absurd h, λ e. subst (λ w. T (is_open w)) (sym e) tt)

module _ (t : Tables) where
  settled_says : (x : ℕ) → T (settled t x) ↔ Settled t x
  unfolding settled
  settled_says x = (
    λ h. (
      ltb→lt (root t (own_node x)) family_limit (and_left own (not property || ranged) h),
      λ k. ltb→lt (root t (range_node x)) family_limit ((passes-if property ranged).1 (and_right own (not property || ranged) h) k),
    ),
    λ h. and_make own (not property || ranged)
        (lt→ltb (root t (own_node x)) family_limit h.0)
        ((passes-if property ranged).0 (λ k. lt→ltb (root t (range_node x)) family_limit (h.1 k))),
  )
    where
      property : Bool
      property = flag t.property x

      own : Bool
      own = ltb (root t (own_node x)) family_limit

      ranged : Bool
      ranged = ltb (root t (range_node x)) family_limit

  tight-says : (p x : ℕ) → T (tight t p x) ↔ (T (flag t.edges (edge_at p x)) → root t (range_node p) ≡ 2 → T (flag t.low x || flag t.high p))
  unfolding tight
  tight-says p x = (
    λ h k e. (passes-if number one).1 ((passes-if edge (not number || one)).1 h k) (true_is number (eq-eqb (root t (range_node p)) 2 e)),
    λ h. (passes-if edge (not number || one)).0 (λ k. (passes-if number one).0 (λ e. h k (eqb→eq (root t (range_node p)) 2 e))),
  )
    where
      edge : Bool
      edge = flag t.edges (edge_at p x)

      number : Bool
      number = eqb (root t (range_node p)) 2

      one : Bool
      one = flag t.low x || flag t.high p

  decided-says : (ws : List Written) → Sound ws t → T (decided t ws) ↔ (((x : ℕ) → Open ws x → Settled t x) × Tight t)
  unfolding decided
  decided-says ws s = (
    λ h. (
      λ x o. (open-settled x).0 ((below-says variable_limit settled_if).0 (and_left families pairs h) x o.0) o.1,
      λ p x l k. (tight-says p x).0 ((below-says variable_limit (tight t p)).0 ((below-says variable_limit tight_at).0 (and_right families pairs h) p (first p x l k)) x l) k,
    ),
    λ h. and_make families pairs
        ((below-says variable_limit settled_if).1 (λ x l. (open-settled x).1 (λ e. h.0 x (l, e))))
        ((below-says variable_limit tight_at).1 (λ p lp. (below-says variable_limit (tight t p)).1 (λ x lx. (tight-says p x).1 (h.1 p x lx)))),
  )
    where
      settled_if : ℕ → Bool
      settled_if x = not (is_open (get_or ws x unbound)) || settled t x

      tight_at : ℕ → Bool
      tight_at p = all_below variable_limit (tight t p)

      families : Bool
      families = all_below variable_limit settled_if

      pairs : Bool
      pairs = all_below variable_limit tight_at

      open-settled : (x : ℕ) → T (settled_if x) ↔ (get_or ws x unbound ≡ undecided → Settled t x)
      open-settled x =
          let w = get_or ws x unbound in (
            λ h e. (settled_says x).0 ((passes-if (is_open w) (settled t x)).1 h ((open-says w).1 e)),
            λ h. (passes-if (is_open w) (settled t x)).0 (λ o. (settled_says x).1 (h ((open-says w).0 o))),
          )

      first : (p x : ℕ) → x < variable_limit → T (flag t.edges (edge_at p x)) → p < variable_limit
      first p x l k = (s.coherent.edges p x l k).2.0

  -- the best types are those of the greatest choice
  of-root : (f : ℕ) (d : Datatype) → of_family f d ≡ of_family (cond (ltb f family_limit) f 3) d
  of-root zero d = refl
  of-root (suc zero) d = refl
  of-root (suc (suc zero)) d = refl
  of-root (suc (suc (suc f))) d = by-test (λ n. date_time ≡ of_family n d) (ltb (suc (suc (suc f))) family_limit) (suc (suc (suc f))) 3 (λ k. refl) (λ k. refl)

  made-of-roots : (b low high : Bool) (f g : ℕ) → made b low high f g ≡ made b low high (cond (ltb f family_limit) f 3) (cond (ltb g family_limit) g 3)
  made-of-roots true low high f g = ap range (of-root g (cond high decimal integer))
  made-of-roots false low high f g = ap plain (of-root f (cond low integer decimal))

  best-is : best t ≡ (solution t (greatest_choice t)).type
  unfolding best
  best-is = fun_ext (λ x. made-of-roots (flag t.property x) (flag t.low x) (flag t.high x) (root t (own_node x)) (root t (range_node x)))

-- ── a type for each variable ─────────────────────────────────────────────────────────────────────

pub type-of : (f : ℕ → Ty) (x : ℕ) → x < variable_limit → type_at (map f variables) x ≡ f x
type-of f x l = at-variable f (plain any_uri) x l

-- of a typing
abbrev pub of_typing : List Ty → Environment
of_typing Γ = record { type = type_at Γ; spare = λ x. any_uri }

module _ (ws : List Written) (per-variable : length ws ≡ variable_limit) where
  -- types for the open variables make a type for each variable
  abbrev pub typing_of : (ℕ → Ty) → List Ty
  typing_of f = map (λ x. chosen (get_or ws x unbound) (f x)) variables

  pub typing-at : (f : ℕ → Ty) (x : ℕ) → x < variable_limit → type_at (typing_of f) x ≡ chosen (get_or ws x unbound) (f x)
  typing-at f x l = type-of (λ x. chosen (get_or ws x unbound) (f x)) x l

  pub typing-open : (f : ℕ → Ty) (x : ℕ) → Open ws x → type_at (typing_of f) x ≡ f x
  typing-open f x o = typing-at f x o.0 ∙ ap (λ w. chosen w (f x)) o.1

  typing-fits : (f : ℕ → Ty) → Fits ws (typing_of f)
  typing-fits f =
      fits-of ws (typing_of f) (sym per-variable)
      (λ x l. subst (AllowedBy (get_or ws x unbound)) (sym (typing-at f x (omega arith))) (fits (get_or ws x unbound) (f x)))
    where
      fits : (w : Written) (τ : Ty) → AllowedBy w (chosen w τ)
      fits unbound τ = refl
      fits undecided τ = tt
      fits (fixed σ) τ = refl

  -- types that fit are made of those of the open variables
  chosen_is : (w : Written) (σ τ : Ty) → AllowedBy w σ → (w ≡ undecided → τ ≡ σ) → chosen w τ ≡ σ
  chosen_is unbound σ τ a e = sym a
  chosen_is undecided σ τ a e = e refl
  chosen_is (fixed ρ) σ τ a e = sym a

  typing-is : (f : ℕ → Ty) (Γ : List Ty) → Fits ws Γ → ((x : ℕ) → Open ws x → f x ≡ type_at Γ x) → typing_of f ≡ Γ
  typing-is f Γ fit h =
      made-is (plain any_uri) (λ x. chosen (get_or ws x unbound) (f x)) Γ (fits-length ws Γ fit ∙ per-variable)
      (λ x l. chosen_is (get_or ws x unbound) (type_at Γ x) (f x) (fits-at ws Γ fit x) (λ e. h x (l, e)))

  -- types that fit are above others that do, where those of the open variables are
  allowed-leq : (w : Written) (σ τ : Ty) → AllowedBy w σ → AllowedBy w τ → (w ≡ undecided → T (leq σ τ)) → T (leq σ τ)
  allowed-leq unbound σ τ a b h = subst (λ ρ. T (leq σ ρ)) (a ∙ sym b) (leq-refl σ)
  allowed-leq undecided σ τ a b h = h refl
  allowed-leq (fixed ρ) σ τ a b h = subst (λ ρ. T (leq σ ρ)) (a ∙ sym b) (leq-refl σ)

  fits-above : (Γ Δ : List Ty) → Fits ws Γ → Fits ws Δ → ((x : ℕ) → Open ws x → T (leq (type_at Δ x) (type_at Γ x))) → T (above Γ Δ)
  fits-above Γ Δ f g h =
      above_of Γ Δ (fits-length ws Γ f ∙ sym (fits-length ws Δ g))
      (λ x l. allowed-leq (get_or ws x unbound) (type_at Δ x) (type_at Γ x) (fits-at ws Δ g x) (fits-at ws Γ f x)
      (λ e. h x (omega (arith, fits-length ws Γ f), e)))

-- ── what is read off tables ─────────────────────────────────────────────────────────────────

-- tables stand for some typings: each of them satisfies the tables, and above types that satisfy them there is one
pub record StandFor (ws : List Written) (t : Tables) (Is : List Ty → Type 0) : Type 0 where
  pub sound : Sound ws t
  pub fits : (Γ : List Ty) → Is Γ → Fits ws Γ
  pub satisfies : (Γ : List Ty) → Is Γ → Satisfies (of_typing Γ) t
  pub over : (E : Environment) → Satisfies E t → (Γ : List Ty) × Is Γ × ((x : ℕ) → Open ws x → T (leq (E.type x) (type_at Γ x)))

module _ (ws : List Written) (per-variable : length ws ≡ variable_limit) (t : Tables) (Is : List Ty → Type 0) (h : StandFor ws t Is) where
  none : T (not (apart t)) → (Γ : List Ty) → Is Γ → ⊥
  none n Γ i = not_both (apart t) (satisfied-apart t h.sound (of_typing Γ) (h.satisfies Γ i)) n

  module _ (good : T (apart t)) where
    over-choice : (c : Choice) → Allowed t c → (Γ : List Ty) × Is Γ × ((x : ℕ) → Open ws x → T (leq ((solution t c).type x) (type_at Γ x)))
    over-choice c a = h.over (solution t c) (solution-satisfies t h.sound good c a)

    -- a greatest one leaves nothing open
    greatest-over : (Γ : List Ty) → IsGreatest Is Γ → (c : Choice) → Allowed t c → (x : ℕ) → Open ws x → T (leq ((solution t c).type x) (type_at Γ x))
    greatest-over Γ g c a x o =
        let r = over-choice c a in
        leq-trans ((solution t c).type x) (type_at r.0 x) (type_at Γ x) (r.2 x o) (above_at Γ r.0 (g.1 r.0 r.1) x)

    greatest-decides : (Γ : List Ty) → IsGreatest Is Γ → T (decided t ws)
    greatest-decides Γ g =
        let s = h.satisfies Γ g.0 in
        (decided-says t ws h.sound).1
        (all_settled t h.sound good (of_typing Γ) s (greatest-over Γ g), all-tight t h.sound good (of_typing Γ) s (greatest-over Γ g))

    -- with nothing open the best types are the greatest
    module _ (all : T (decided t ws)) where
      abbrev top : ℕ → Ty
      top = (solution t (greatest_choice t)).type

      over-top : (Γ : List Ty) × Is Γ × ((x : ℕ) → Open ws x → T (leq (top x) (type_at Γ x)))
      over-top = over-choice (greatest_choice t) (greatest-allowed t h.sound good ((decided-says t ws h.sound).0 all).1)

      under_top : (Δ : List Ty) → Is Δ → (x : ℕ) → Open ws x → T (leq (type_at Δ x) (top x))
      under_top Δ i x o = greatest-above t h.sound good (of_typing Δ) (h.satisfies Δ i) x o.0 (((decided-says t ws h.sound).0 all).0 x o)

      top-greatest : IsGreatest Is over-top.0
      top-greatest = (
        over-top.1,
        λ Δ i. fits-above ws per-variable over-top.0 Δ (h.fits over-top.0 over-top.1) (h.fits Δ i) (λ x o.
            leq-trans (type_at Δ x) (top x) (type_at over-top.0 x) (under_top Δ i x o) (over-top.2 x o)),
      )

      top-is : typing_of ws per-variable top ≡ over-top.0
      top-is =
          typing-is ws per-variable top over-top.0 (h.fits over-top.0 over-top.1)
          (λ x o. same-type (top x) (type_at over-top.0 x)
          (leq-antisym (top x) (type_at over-top.0 x) (over-top.2 x o) (under_top over-top.0 over-top.1 x o)))

      best-greatest : IsGreatest Is (best_types t ws)
      unfolding best_types
      best-greatest = subst (IsGreatest Is) (sym top-is ∙ ap (typing_of ws per-variable) (sym (best-is t))) top-greatest

  pub read-off-says : Says Is (read_off t ws)
  unfolding read_off
  read-off-says = outer (apart t) refl
    where
      inner : T (apart t) → (b : Bool) → decided t ws ≡ b → Says Is (elim b as (λ c. Verdict) [ true ↦ greatest (best_types t ws) | false ↦ no_greatest ])
      inner good true e = best-greatest good (true_is (decided t ws) e)
      inner good false e =
          let some = over-choice good (own_greatest t 3 (lit< tt)) (own-allowed t 3 (lit< tt)) in
          ((some.0, some.1), λ Γ g. not_both (decided t ws) (greatest-decides good Γ g) (false_is (decided t ws) e))

      outer : (b : Bool) → apart t ≡ b
          → Says Is (elim b as (λ c. Verdict) [
            | true ↦ elim (decided t ws) as (λ c. Verdict) [ true ↦ greatest (best_types t ws) | false ↦ no_greatest ]
            | false ↦ no_typing
          ])
      outer true e = inner (true_is (apart t) e) (decided t ws) refl
      outer false e = none (false_is (apart t) e)

-- ── the theorem ─────────────────────────────────────────────────────────────────────────────

module _ (constants : ℕ → Sort) (ws : List Written) (per-variable : length ws ≡ variable_limit) where
  -- the types of the names are those of their places
  typing-agrees : (Γ : List Ty) → Fits ws Γ → (n : Name) → name_type constants (type_at Γ) n ≡ type_in (of_typing Γ) (place constants ws n)
  unfolding place
  typing-agrees Γ f (var x) = go (get_or ws x unbound) (fits-at ws Γ f x)
    where
      go : (w : Written) → AllowedBy w (type_at Γ x) → type_at Γ x ≡ type_in (of_typing Γ) (written_place x w)
      go unbound e = e
      go undecided e = refl
      go (fixed τ) e = e
  typing-agrees Γ f (const c) = refl

  types-agree : (E : Environment) (n : Name) → name_type constants (type_at (typing_of ws per-variable E.type)) n ≡ type_in E (place constants ws n)
  unfolding place
  types-agree E (var x) = go (split variable_limit x)
    where
      same : (w : Written) → chosen w (E.type x) ≡ type_in E (written_place x w)
      same unbound = refl
      same undecided = refl
      same (fixed τ) = refl

      go : (variable_limit ≤ x) ⊎ (x < variable_limit) → type_at (typing_of ws per-variable E.type) x ≡ type_in E (written_place x (get_or ws x unbound))
      go (inl l) =
          get_or-eq_default (typing_of ws per-variable E.type) (plain any_uri) {n = x} l
          ∙ ap (λ w. type_in E (written_place x w)) (sym (get_or-eq_default ws unbound {n = x} (omega arith)))
      go (inr l) = typing-at ws per-variable E.type x l ∙ same (get_or ws x unbound)
  types-agree E (const c) = refl

module _ (constants : ℕ → Sort) (ws : List Written) (per-variable : length ws ≡ variable_limit) (s : Script) where
  abbrev t : Tables
  t = tables_of constants ws s

  pub script-sound : Sound ws t
  script-sound = tables-sound constants ws per-variable (script_demands s)

  -- a typing satisfies the tables, and types that satisfy them make a typing
  pub typing-satisfies : (Γ : List Ty) → IsTyping constants ws s Γ → Satisfies (of_typing Γ) t
  typing-satisfies Γ h =
      (tables-say constants ws per-variable (script_demands s) (type_at Γ) (of_typing Γ) (typing-agrees constants ws per-variable Γ h.0)).1
      (subst T (script-met constants (type_at Γ) s) h.1)

  pub satisfied-typing : (E : Environment) → Satisfies E t → IsTyping constants ws s (typing_of ws per-variable E.type)
  satisfied-typing E h =
      let Γ = typing_of ws per-variable E.type in
      let m = (tables-say constants ws per-variable (script_demands s) (type_at Γ) E (types-agree constants ws per-variable E)).0 h in
      (typing-fits ws per-variable E.type, subst T (sym (script-met constants (type_at Γ) s)) m)

  script-stands : StandFor ws t (IsTyping constants ws s)
  script-stands = record {
    sound = script-sound;
    fits = λ Γ i. i.0;
    satisfies = typing-satisfies;
    over = λ E h. (
      typing_of ws per-variable E.type,
      satisfied-typing E h,
      λ x o. subst (λ τ. T (leq (E.type x) τ)) (sym (typing-open ws per-variable E.type x o)) (leq-refl (E.type x)),
    );
  }

  -- for all constants, written types of the variables, and scripts
  pub infer-is-verdict : infer constants ws s ≡ verdict constants ws s
  unfolding infer
  infer-is-verdict =
      sym ((verdict-is constants ws s (read_off t ws)).1 (read-off-says ws per-variable t (IsTyping constants ws s) script-stands))
