-- Tables in which demands were noted say of the variables' types that the demands are met.
use mathlib.Core.Path.{◌≡◌, refl, ap, ap₂, sym, ◌∙◌, subst, fun_ext}
use mathlib.Core.Logic.{◌⊎◌, inl, inr, ◌↔◌}
use Prim.Native.Nat.{ℕ, zero, suc, ◌+◌, ◌*◌, ◌≤◌, ◌<◌}
use native.Mathlib.Omega.{arith}
use mathlib.Core.List.{List, [], ◌∷◌, ◌++◌}
use mathlib.Core.Bool.{Bool, true, false, cond}
use lib.Dec.{T, eqb, eqb→eq, eqb_refl}
use lib.ListN.{get_or, length, replicate, length-replicate, get_or-eq_default}
use Rattle.definitions.specs.Limits.{variable_limit}
use Rattle.definitions.specs.Lists.{every}
use Rattle.definitions.specs.Types.{Datatype, any_uri, string, decimal, integer, Ty, plain, range, leq_datatype, same_datatype}
use Rattle.definitions.specs.Terms.{Sort}
use Rattle.definitions.specs.Tree.{Name, var, const}
use Rattle.definitions.specs.Typing.{Written, unbound, undecided, fixed}
use Rattle.laws.proofs.Order.{same-datatype}
use Rattle.laws.proofs.TestEquations.{both-pass}
use Rattle.laws.proofs.Ranges.{split}
use Rattle.codes.specs.Family.{family, own_datatype}
use Rattle.facts.specs.Demands.{Node, Demand, same, property}
use Rattle.facts.specs.declared.noting.Tables.{Tables}
use Rattle.facts.specs.Tables.{node_limit, edge_limit, own_node, range_node, fresh, merged, with_low, with_high, with_edge, Place, variable, known, written_place, place_node, at_most}
use Rattle.facts.specs.Tables.{as_property, at_least, edge, impossible, related, place, node_at, noted, all_noted}
use Rattle.laws.specs.Lists.{flag}
use Rattle.facts.specs.Infer.{root}
use Rattle.facts.proofs.Family.{is_range, is_property, property-any, family-below, leq-family, leq-at-most, leq-at-least}
use Rattle.facts.proofs.Demands.{name_type, node_datatype, met, all_met}
use Rattle.facts.proofs.UnionFind.{up-forest, up_root}
use Rattle.facts.proofs.Tables.{Environment, own_of, range_of, value, value-family, value-own, value-range, Low, High, Property, Edge, Satisfies, Open, Sound, Adds}
use Rattle.facts.proofs.Tables.{adds_then, adds-as, adds-when, merged-joins, merged-adds, low-adds, high-adds, property-flag, property-adds, edge-adds}

-- ── one thing noted ─────────────────────────────────────────────────────────────────────────

pub own_below : {x : ℕ} → x < variable_limit → own_node x < node_limit
own_below l = omega arith

pub range-below : {x : ℕ} → x < variable_limit → range_node x < node_limit
range-below l = omega arith

pub node-below : (d : Datatype) → family d < node_limit
node-below d = omega (arith, family-below d)

module _ {ws : List Written} (t : Tables) (s : Sound ws t) where
  pub at-most-adds : (x : ℕ) (d : Datatype) → x < variable_limit → Adds ws t (at_most x d t) (λ E. T (leq_datatype (own_of E x) d))
  unfolding at_most
  at-most-adds x d l = adds-as (adds_then joins (adds-when (same_datatype d integer) (with_low x) joins.sound low)) words
    where
      t₁ : Tables
      t₁ = merged (own_node x) (family d) t

      joins : Adds ws t t₁ (λ E. value E (own_node x) ≡ value E (family d))
      joins = merged-adds t s (own_node x) (family d) (own_below l) (node-below d)

      joined : root t₁ (own_node x) ≡ root t₁ (family d)
      joined = merged-joins t s (own_node x) (family d) (own_below l) (node-below d)

      low : T (same_datatype d integer) → Adds ws t₁ (with_low x t₁) (λ E. Low E x)
      low k = low-adds t₁ joins.sound x l (joined ∙ ap (λ e. root t₁ (family e)) (same-datatype d integer k))

      words : (E : Environment) → ((value E (own_node x) ≡ value E (family d)) × (T (same_datatype d integer) → Low E x)) ↔ T (leq_datatype (own_of E x) d)
      words E = (
        λ h. leq-at-most (own_of E x) d (sym (value-own E x l) ∙ h.0 ∙ value-family E d) h.1,
        λ h. (
          value-own E x l ∙ leq-family (own_of E x) d h ∙ sym (value-family E d),
          λ k. subst (λ e. T (leq_datatype (own_of E x) e)) (same-datatype d integer k) h,
        ),
      )

  pub as-property-adds : (p : ℕ) → p < variable_limit → Adds ws t (as_property p t) (λ E. Property E p)
  unfolding as_property
  as-property-adds p l = adds-as (adds_then joins (property-adds t₁ joins.sound p l joined)) words
    where
      t₁ : Tables
      t₁ = merged (own_node p) 0 t

      joins : Adds ws t t₁ (λ E. value E (own_node p) ≡ value E 0)
      joins = merged-adds t s (own_node p) 0 (own_below l) (omega arith)

      joined : root t₁ (own_node p) ≡ root t₁ 0
      joined = merged-joins t s (own_node p) 0 (own_below l) (omega arith)

      is-uri : (τ : Ty) → T (is_range τ) → family (own_datatype τ) ≡ 0
      is-uri (plain d) h = absurd h
      is-uri (range d) h = refl

      words : (E : Environment) → ((value E (own_node p) ≡ value E 0) × Property E p) ↔ Property E p
      words E = (λ h. h.1, λ h. (value-own E p l ∙ is-uri (E.type p) h ∙ sym (value-family E any_uri), h))

  pub property-flagged : (p : ℕ) → p < variable_limit → T (flag (as_property p t).property p)
  unfolding as_property
  property-flagged p l = property-flag (merged (own_node p) 0 t) (merged-adds t s (own_node p) 0 (own_below l) (omega arith)).sound p l

  pub at-least-adds : (p : ℕ) (d : Datatype) → p < variable_limit → Adds ws t (at_least p d t) (λ E. Property E p × T (leq_datatype d (range_of E p)))
  unfolding at_least
  at-least-adds p d l = adds-as (adds_then noting (adds_then joins (adds-when (same_datatype d decimal) (with_high p) joins.sound high))) words
    where
      noting : Adds ws t (as_property p t) (λ E. Property E p)
      noting = as-property-adds p l

      t₁ : Tables
      t₁ = merged (range_node p) (family d) (as_property p t)

      joins : Adds ws (as_property p t) t₁ (λ E. value E (range_node p) ≡ value E (family d))
      joins = merged-adds (as_property p t) noting.sound (range_node p) (family d) (range-below l) (node-below d)

      joined : root t₁ (range_node p) ≡ root t₁ (family d)
      joined = merged-joins (as_property p t) noting.sound (range_node p) (family d) (range-below l) (node-below d)

      high : T (same_datatype d decimal) → Adds ws t₁ (with_high p t₁) (λ E. High E p)
      high k = high-adds t₁ joins.sound p l (joined ∙ ap (λ e. root t₁ (family e)) (same-datatype d decimal k)) (property-flagged p l)

      words : (E : Environment) → (Property E p × ((value E (range_node p) ≡ value E (family d)) × (T (same_datatype d decimal) → High E p)))
          ↔ (Property E p × T (leq_datatype d (range_of E p)))
      words E = (
        λ h. (h.0, leq-at-least d (range_of E p) (sym (value-family E d) ∙ sym h.1.0 ∙ value-range E p) h.1.1),
        λ h. (
          h.0,
          (
            value-range E p ∙ sym (leq-family d (range_of E p) h.1) ∙ sym (value-family E d),
            λ k. subst (λ e. T (leq_datatype e (range_of E p))) (same-datatype d decimal k) h.1,
          ),
        ),
      )

  pair-adds : (p x : ℕ) → Open ws p → Open ws x → Adds ws t (edge p x t) (λ E. Property E p × Edge E p x)
  unfolding edge
  pair-adds p x op ox = adds-as (adds_then noting (adds_then joins pair)) words
    where
      noting : Adds ws t (as_property p t) (λ E. Property E p)
      noting = as-property-adds p op.0

      t₁ : Tables
      t₁ = merged (range_node p) (own_node x) (as_property p t)

      joins : Adds ws (as_property p t) t₁ (λ E. value E (range_node p) ≡ value E (own_node x))
      joins = merged-adds (as_property p t) noting.sound (range_node p) (own_node x) (range-below op.0) (own_below ox.0)

      joined : root t₁ (range_node p) ≡ root t₁ (own_node x)
      joined = merged-joins (as_property p t) noting.sound (range_node p) (own_node x) (range-below op.0) (own_below ox.0)

      pair : Adds ws t₁ (with_edge p x t₁) (λ E. Edge E p x)
      pair = edge-adds t₁ joins.sound p x (joined, property-flagged p op.0, op, ox)

      words : (E : Environment) → (Property E p × ((value E (range_node p) ≡ value E (own_node x)) × Edge E p x)) ↔ (Property E p × Edge E p x)
      words E = (
        λ h. (h.0, h.1.1),
        λ h. (h.0, (value-range E p ∙ sym (leq-family (own_of E x) (range_of E p) h.1) ∙ sym (value-own E x ox.0), h.1)),
      )

  pub impossible-adds : Adds ws t (impossible t) (λ E. ⊥)
  unfolding impossible
  impossible-adds = adds-as (merged-adds t s 0 1 (omega arith) (omega arith)) (λ E. (never E, λ h. absurd h))
    where
      never : (E : Environment) → value E 0 ≡ value E 1 → ⊥
      never E h = let z : ◌≡◌ {A = ℕ} 0 1 = sym (value-family E any_uri) ∙ h ∙ value-family E string in omega arith

  unless-adds : (b : Bool) → Adds ws t (cond b t (impossible t)) (λ E. T b)
  unless-adds true = record { sound = s; says = λ E. (λ h. (h, tt), λ h. h.0) }
  unless-adds false = impossible-adds

-- ── a demand ────────────────────────────────────────────────────────────────────────────────

abbrev pub type_in : Environment → Place → Ty
type_in E (variable x) = E.type x
type_in E (known τ) = τ

abbrev spare_in : Environment → Place → Datatype
spare_in E (variable x) = E.spare x
spare_in E (known τ) = any_uri

abbrev are_related : Environment → (property object : Place) → Bool
are_related E p o = is_property (spare_in E p) (type_in E p) (type_in E o)

abbrev Opened : List Written → Place → Type 0
Opened ws (variable x) = Open ws x
Opened ws (known τ) = Unit

related-adds : {ws : List Written} (t : Tables) → Sound ws t → (p o : Place) → Opened ws p → Opened ws o
    → Adds ws t (related p o t) (λ E. T (are_related E p o))
unfolding related
related-adds t s (variable p) (variable x) op ox =
    adds-as (pair-adds t s p x op ox) (λ E. both-pass (is_range (E.type p)) (leq_datatype (own_of E x) (range_of E p)))
related-adds t s (variable p) (known τ) op ox =
    adds-as (at-least-adds t s p (own_datatype τ) op.0) (λ E. both-pass (is_range (E.type p)) (leq_datatype (own_datatype τ) (range_of E p)))
related-adds t s (known (plain d)) (variable x) op ox = impossible-adds t s
related-adds t s (known (plain d)) (known τ) op ox = impossible-adds t s
related-adds t s (known (range d)) (variable x) op ox = at-most-adds t s x d ox.0
related-adds t s (known (range d)) (known τ) op ox = unless-adds t s (leq_datatype (own_datatype τ) d)

module _ (constants : ℕ → Sort) (ws : List Written) (per-variable : length ws ≡ variable_limit) where
  abbrev at : Name → Place
  at n = place constants ws n

  place-open : (n : Name) → Opened ws (at n)
  unfolding place
  place-open (var x) = go (get_or ws x unbound) refl
    where
      below : get_or ws x unbound ≡ undecided → (variable_limit ≤ x) ⊎ (x < variable_limit) → x < variable_limit
      below e (inl l) = absurd (let z : ◌≡◌ {A = ℕ} 0 1 = cc (get_or-eq_default ws unbound {n = x} (omega arith)) in omega arith)
      below e (inr l) = l

      go : (w : Written) → get_or ws x unbound ≡ w → Opened ws (written_place x w)
      go unbound e = tt
      go undecided e = (below e (split variable_limit x), e)
      go (fixed τ) e = tt
  place-open (const c) = tt

  place-node : (p : Place) → Opened ws p → place_node p < node_limit
  place-node (variable x) o = own_below o.0
  place-node (known τ) o = node-below (own_datatype τ)

  node-inside : (a : Node) → node_at constants ws a < node_limit
  unfolding node_at
  node-inside (Node.name n) = place-node (at n) (place-open n)
  node-inside (Node.fixed d) = node-below d

  module _ (E : Environment) where
    abbrev placed_family : Node → ℕ
    placed_family (Node.name n) = family (own_datatype (type_in E (at n)))
    placed_family (Node.fixed d) = family d

    -- the demand is met by the types of the places
    abbrev placed : Demand → Bool
    placed (same a b) = eqb (placed_family a) (placed_family b)
    placed (property p o) = are_related E (at p) (at o)

    value-place : (p : Place) → Opened ws p → value E (place_node p) ≡ family (own_datatype (type_in E p))
    value-place (variable x) o = value-own E x o.0
    value-place (known τ) o = value-family E (own_datatype τ)

    value-node : (a : Node) → value E (node_at constants ws a) ≡ placed_family a
    unfolding node_at
    value-node (Node.name n) = value-place (at n) (place-open n)
    value-node (Node.fixed d) = value-family E d

  noted-adds : (t : Tables) → Sound ws t → (c : Demand) → Adds ws t (noted constants ws c t) (λ E. T (placed E c))
  unfolding noted
  noted-adds t s (same a b) = adds-as (merged-adds t s (node_at constants ws a) (node_at constants ws b) (node-inside a) (node-inside b)) words
    where
      words : (E : Environment) → (value E (node_at constants ws a) ≡ value E (node_at constants ws b)) ↔ T (eqb (placed_family E a) (placed_family E b))
      words E = (
        λ h. subst (λ n. T (eqb (placed_family E a) n)) (sym (value-node E a) ∙ h ∙ value-node E b) (eqb_refl (placed_family E a)),
        λ h. value-node E a ∙ eqb→eq (placed_family E a) (placed_family E b) h ∙ sym (value-node E b),
      )
  noted-adds t s (property p o) = related-adds t s (at p) (at o) (place-open p) (place-open o)

  all-noted-adds : (cs : List Demand) (t : Tables) → Sound ws t → Adds ws t (all_noted constants ws cs t) (λ E. T (every (placed E) cs))
  unfolding all_noted
  all-noted-adds [] t s = record { sound = s; says = λ E. (λ h. (h, tt), λ h. h.0) }
  all-noted-adds (c ∷ cs) t s =
      let first = noted-adds t s c in
      adds-as (adds_then first (all-noted-adds cs (noted constants ws c t) first.sound)) (λ E. both-pass (placed E c) (every (placed E) cs))

-- ── from fresh tables on ────────────────────────────────────────────────────────────────────

no_flag : (n k : ℕ) → T (flag (replicate n false) k) → ⊥
no_flag zero k h = h
no_flag (suc n) zero h = h
no_flag (suc n) (suc k) h = no_flag n k h

pub fresh-sound : (ws : List Written) → Sound ws fresh
unfolding fresh
fresh-sound ws = record {
  forest = up-forest node_limit;
  sized = record {
    low = length-replicate variable_limit false;
    high = length-replicate variable_limit false;
    property = length-replicate variable_limit false;
    edges = length-replicate edge_limit false;
  };
  coherent = record {
    lows = λ x h. absurd (no_flag variable_limit x h);
    highs = λ p h. absurd (no_flag variable_limit p h);
    properties = λ p h. absurd (no_flag variable_limit p h);
    edges = λ p x l h. absurd (no_flag edge_limit (variable_limit * p + x) h);
  };
}

fresh-satisfied : (E : Environment) → Satisfies E fresh
unfolding fresh
fresh-satisfied E = record {
  families = λ n. ap (value E) (up_root node_limit n);
  lows = λ x h. absurd (no_flag variable_limit x h);
  highs = λ p h. absurd (no_flag variable_limit p h);
  properties = λ p h. absurd (no_flag variable_limit p h);
  edges = λ p x l h. absurd (no_flag edge_limit (variable_limit * p + x) h);
}

module _ (constants : ℕ → Sort) (ws : List Written) (per-variable : length ws ≡ variable_limit) (cs : List Demand) where
  abbrev adds : Adds ws fresh (all_noted constants ws cs fresh) (λ E. T (every (placed constants ws per-variable E) cs))
  adds = all-noted-adds constants ws per-variable cs fresh (fresh-sound ws)

  pub tables-sound : Sound ws (all_noted constants ws cs fresh)
  tables-sound = adds.sound

  -- E has at the places the types that Γ has at the names
  pub tables-say : (Γ : ℕ → Ty) (E : Environment) → ((n : Name) → name_type constants Γ n ≡ type_in E (place constants ws n))
      → Satisfies E (all_noted constants ws cs fresh) ↔ T (all_met constants Γ cs)
  tables-say Γ E agree = (
    λ h. subst T (sym alike) ((adds.says E).0 h).1,
    λ h. (adds.says E).1 (fresh-satisfied E, subst T alike h),
  )
    where
      node_alike : (a : Node) → family (node_datatype constants Γ a) ≡ placed_family constants ws per-variable E a
      node_alike (Node.name n) = ap (λ τ. family (own_datatype τ)) (agree n)
      node_alike (Node.fixed d) = refl

      demand-alike : (c : Demand) → met constants Γ c ≡ placed constants ws per-variable E c
      demand-alike (same a b) = ap₂ eqb (node_alike a) (node_alike b)
      demand-alike (property p o) =
          ap₂ (is_property any_uri) (agree p) (agree o)
          ∙ property-any (type_in E (place constants ws p)) (type_in E (place constants ws o)) any_uri (spare_in E (place constants ws p))

      alike : all_met constants Γ cs ≡ every (placed constants ws per-variable E) cs
      alike = ap (λ f. every f cs) (fun_ext demand-alike)

-- ── for the code ────────────────────────────────────────────────────────────────────────────

pub all-noted-append : (constants : ℕ → Sort) (ws : List Written) (cs ds : List Demand) (t : Tables)
    → all_noted constants ws (cs ++ ds) t ≡ all_noted constants ws ds (all_noted constants ws cs t)
unfolding all_noted
all-noted-append constants ws [] ds t = refl
all-noted-append constants ws (c ∷ cs) ds t = all-noted-append constants ws cs ds (noted constants ws c t)
