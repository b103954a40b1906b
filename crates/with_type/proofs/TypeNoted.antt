-- What tables with a type noted at a variable say of the variables' types.
use mathlib.Core.Path.{◌≡◌, refl, sym, ◌∙◌, subst}
use mathlib.Core.Logic.{⊎_elim, ◌↔◌}
use Prim.Native.Nat.{ℕ, ◌<◌}
use native.Mathlib.Omega.{arith}
use mathlib.Core.List.{List}
use mathlib.Core.Bool.{Bool, true, false, cond, ◌||◌}
use lib.Dec.{T}
use lib.ListN.{length, get_or-eq_default}
use Rattle.definitions.specs.Limits.{variable_limit}
use Rattle.definitions.specs.Types.{Datatype, any_uri, string, decimal, date_time, integer, Ty, plain, range, leq, same_datatype}
use Rattle.definitions.specs.Typing.{Written}
use Rattle.laws.specs.Lists.{flag}
use Rattle.laws.proofs.Tests.{or_cases, or_left, or_right}
use Rattle.laws.proofs.Ranges.{split}
use Rattle.laws.proofs.Variables.{at-variable}
use Rattle.facts.specs.declared.noting.Tables.{Tables}
use Rattle.facts.specs.Tables.{own_node, range_node, edge_at, at_most, as_property, at_least, impossible}
use Rattle.facts.specs.Infer.{root}
use Rattle.facts.proofs.Family.{is_range, range_or, leq-plain}
use Rattle.facts.proofs.Tables.{Flagged, Environment, Low, High, Sound, Adds, adds_then, adds-as, merged-joins}
use Rattle.facts.proofs.NotingLaws.{own_below, range-below, node-below, at-most-adds, as-property-adds, at-least-adds, impossible-adds}
use Rattle.with_type.specs.WithType.{flagged, with_highs, with_lows, leaves, at_most_type, with_type}

-- ── more flags ──────────────────────────────────────────────────────────────────────────────

flag-inside : (l : List Bool) (x : ℕ) → T (flag l x) → x < length l
flag-inside l x h = ⊎_elim (λ e. absurd (subst T (get_or-eq_default l false {n = x} e) h)) (λ e. e) (split (length l) x)

flagged-sized : (l : List Bool) (more : ℕ → Bool) → length (flagged l more) ≡ variable_limit
unfolding flagged
flagged-sized l more = refl

-- each variable that was flagged, and each that passes a test
flags-say : (l : List Bool) (more : ℕ → Bool) → length l ≡ variable_limit → (P : ℕ → Type 0)
    → Flagged (flagged l more) P ↔ (Flagged l P × ((x : ℕ) → x < variable_limit → T (more x) → P x))
unfolding flagged
flags-say l more sized P = (
  λ h. (
    λ x k. h x (subst T (sym (at x (omega (arith, flag-inside l x k)))) (or_left (flag l x) (more x) k)),
    λ x i k. h x (subst T (sym (at x i)) (or_right (flag l x) (more x) k)),
  ),
  λ h x k.
      let i : x < variable_limit = flag-inside (flagged l more) x k in
      ⊎_elim (h.0 x) (h.1 x i) (or_cases (flag l x) (more x) (subst T (at x i) k)),
)
  where
    at : (x : ℕ) → x < variable_limit → flag (flagged l more) x ≡ flag l x || more x
    at x i = at-variable (λ x. flag l x || more x) false x i

module _ {ws : List Written} (t : Tables) (s : Sound ws t) where
  highs-add : (x : ℕ) → x < variable_limit → root t (own_node x) ≡ root t 2
      → Adds ws t (with_highs x t) (λ E. (p : ℕ) → p < variable_limit → T (flag t.edges (edge_at p x)) → High E p)
  highs-add x i e = record {
    sound = record {
      forest = s.forest;
      sized = record { low = s.sized.low; high = flagged-sized t.high (λ p. flag t.edges (edge_at p x)); property = s.sized.property; edges = s.sized.edges };
      coherent = record {
        lows = s.coherent.lows;
        highs = (flags (λ p. (root t (range_node p) ≡ root t 2) × T (flag t.property p))).1 (
          s.coherent.highs,
          λ p l k. let r = s.coherent.edges p x i k in (r.0 ∙ e, r.1),
        );
        properties = s.coherent.properties;
        edges = s.coherent.edges;
      };
    };
    says = λ E. (
      λ h. let r = (flags (High E)).0 h.highs in
          (record { families = h.families; lows = h.lows; highs = r.0; properties = h.properties; edges = h.edges }, r.1),
      λ h. record {
        families = h.0.families;
        lows = h.0.lows;
        highs = (flags (High E)).1 (h.0.highs, h.1);
        properties = h.0.properties;
        edges = h.0.edges;
      },
    );
  }
    where
      flags : (P : ℕ → Type 0) → Flagged (with_highs x t).high P ↔ (Flagged t.high P × ((p : ℕ) → p < variable_limit → T (flag t.edges (edge_at p x)) → P p))
      flags = flags-say t.high (λ p. flag t.edges (edge_at p x)) s.sized.high

  lows-add : (p : ℕ) → root t (range_node p) ≡ root t 2
      → Adds ws t (with_lows p t) (λ E. (x : ℕ) → x < variable_limit → T (flag t.edges (edge_at p x)) → Low E x)
  lows-add p e = record {
    sound = record {
      forest = s.forest;
      sized = record { low = flagged-sized t.low (λ x. flag t.edges (edge_at p x)); high = s.sized.high; property = s.sized.property; edges = s.sized.edges };
      coherent = record {
        lows = (flags (λ x. root t (own_node x) ≡ root t 2)).1 (s.coherent.lows, λ x l k. sym (s.coherent.edges p x l k).0 ∙ e);
        highs = s.coherent.highs;
        properties = s.coherent.properties;
        edges = s.coherent.edges;
      };
    };
    says = λ E. (
      λ h. let r = (flags (Low E)).0 h.lows in
          (record { families = h.families; lows = r.0; highs = h.highs; properties = h.properties; edges = h.edges }, r.1),
      λ h. record {
        families = h.0.families;
        lows = (flags (Low E)).1 (h.0.lows, h.1);
        highs = h.0.highs;
        properties = h.0.properties;
        edges = h.0.edges;
      },
    );
  }
    where
      flags : (P : ℕ → Type 0) → Flagged (with_lows p t).low P ↔ (Flagged t.low P × ((x : ℕ) → x < variable_limit → T (flag t.edges (edge_at p x)) → P x))
      flags = flags-say t.low (λ x. flag t.edges (edge_at p x)) s.sized.low

-- ── a type at most ──────────────────────────────────────────────────────────────────────────

-- what the type asks of a variable's properties, and of its objects
abbrev pub Forced : Tables → ℕ → Ty → Environment → Type 0
Forced t x (plain d) E = T (same_datatype d decimal) → (p : ℕ) → p < variable_limit → T (flag t.edges (edge_at p x)) → High E p
Forced t x (range d) E = T (same_datatype d integer) → (y : ℕ) → y < variable_limit → T (flag t.edges (edge_at x y)) → Low E y

leq-range : (τ : Ty) (spare d : Datatype) → (T (is_range τ) × T (leq (range (range_or spare τ)) (range d))) ↔ T (leq τ (range d))
leq-range (plain e) spare d = (λ h. absurd h.0, λ h. absurd h)
leq-range (range e) spare d = (λ h. h.1, λ h. (tt, h))

module _ {ws : List Written} (t : Tables) (s : Sound ws t) (x : ℕ) (i : x < variable_limit) where
  plain-adds : (d : Datatype) → Adds ws t (at_most x d t) (λ E. T (leq (E.type x) (plain d)))
  plain-adds d =
      adds-as (at-most-adds t s x d i) (λ E. (subst T (sym (leq-plain (E.type x) d)), subst T (leq-plain (E.type x) d)))

  range-adds : (d : Datatype) → Adds ws t (at_least x d t) (λ E. T (leq (E.type x) (range d)))
  range-adds d = adds-as (at-least-adds t s x d i) (λ E. leq-range (E.type x) (E.spare x) d)

  -- another type than decimal and range(integer) asks for nothing more
  no_more : {u : Tables} {F G : Environment → Type 0} → Adds ws t u F → ((E : Environment) → G E) → Adds ws t u (λ E. F E × G E)
  no_more a g = adds-as a (λ E. (λ h. (h, g E), λ h. h.0))

  at-most-type-adds : (τ : Ty) → Adds ws t (at_most_type x τ t) (λ E. T (leq (E.type x) τ) × Forced t x τ E)
  unfolding at_most_type at_most at_least as_property
  at-most-type-adds (plain any_uri) = no_more (plain-adds any_uri) (λ E k. absurd k)
  at-most-type-adds (plain string) = no_more (plain-adds string) (λ E k. absurd k)
  at-most-type-adds (plain decimal) =
      let a = plain-adds decimal in
      adds-as (adds_then a (highs-add (at_most x decimal t) a.sound x i (merged-joins t s (own_node x) 2 (own_below i) (node-below decimal))))
      (λ E. (λ h. (h.0, λ k. h.1), λ h. (h.0, h.1 tt)))
  at-most-type-adds (plain date_time) = no_more (plain-adds date_time) (λ E k. absurd k)
  at-most-type-adds (plain integer) = no_more (plain-adds integer) (λ E k. absurd k)
  at-most-type-adds (range any_uri) = no_more (range-adds any_uri) (λ E k. absurd k)
  at-most-type-adds (range string) = no_more (range-adds string) (λ E k. absurd k)
  at-most-type-adds (range decimal) = no_more (range-adds decimal) (λ E k. absurd k)
  at-most-type-adds (range date_time) = no_more (range-adds date_time) (λ E k. absurd k)
  at-most-type-adds (range integer) =
      let a = range-adds integer in
      let joined = merged-joins (as_property x t) (as-property-adds t s x i).sound (range_node x) 2 (range-below i) (node-below integer) in
      adds-as (adds_then a (lows-add (at_least x integer t) a.sound x joined)) (λ E. (λ h. (h.0, λ k. h.1), λ h. (h.0, h.1 tt)))

  pub with-type-adds : (τ : Ty) → Adds ws t (with_type x τ t) (λ E. T (leaves t x τ) × (T (leq (E.type x) τ) × Forced t x τ E))
  unfolding with_type
  with-type-adds τ = go (leaves t x τ)
    where
      go : (b : Bool) → Adds ws t (cond b (at_most_type x τ t) (impossible t)) (λ E. T b × (T (leq (E.type x) τ) × Forced t x τ E))
      go true = adds-as (at-most-type-adds τ) (λ E. (λ h. (tt, h), λ h. h.1))
      go false = adds-as (impossible-adds t s) (λ E. (λ h. absurd h, λ h. h.0))
