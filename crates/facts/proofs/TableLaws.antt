-- Noting in the tables, as the code does it: each step keeps a forest of the nodes.
use Prim.Native.Nat.{ℕ, ◌-◌, ◌≤◌, ◌<◌}
use native.Mathlib.Omega.{arith}
use mathlib.Core.Path.{◌≡◌, sym, ap, ap₂, ◌∙◌, subst}
use mathlib.Core.Bool.{Bool, true, false}
use borrow.Author.Tests.{eq-eqb, ne_eqb}
use Rattle.definitions.specs.Limits.{variable_limit}
use Rattle.definitions.specs.Types.{plain, leq_datatype}
use Rattle.codes.specs.Family.{family, own_datatype}
use Rattle.facts.specs.UnionFind.{merge_in}
use Rattle.facts.specs.declared.families.Families.{Families}
use Rattle.facts.specs.declared.noting.Tables.{Tables}
use Rattle.facts.specs.declared.Place as Codes
use Rattle.facts.specs.declared.Place.TheVariants.{Variable, Known}
use Rattle.facts.specs.Tables.{node_limit, Place, variable, known, own_node, range_node}
use Rattle.facts.specs.Tables.{merged, with_low, with_high, with_property, with_edge, when, at_most, as_property, at_least, edge, impossible, related}
use Rattle.codes.specs.TypeCodes.{datatype_of, type_of}
use Rattle.facts.specs.Codes.{place_of, PlaceIn}
use Rattle.facts.specs.Walk.{Joined}
use Rattle.facts.proofs.Family.{family-below}
use Rattle.facts.proofs.UnionFind.{merge-forest}
use Rattle.codes.proofs.CodeLaws.{is-decimal, is-integer, plain_code, range-code}

pub family-small : {f : ℕ} (k : ℕ) → f ≡ family (datatype_of k) → f < node_limit
family-small k e = omega (arith, family-below (datatype_of k))

-- ── one thing ───────────────────────────────────────────────────────────────────────────────

pub merged-is : (t : Tables) (m n : ℕ) {f : Families} → f.parents ≡ merge_in t.families.parents m n
    → record { families = f; low = t.low; high = t.high; property = t.property; edges = t.edges } ≡ merged m n t
merged-is t m n e = λ i. record { families = record { parents = e i }; low = t.low; high = t.high; property = t.property; edges = t.edges }

pub merged-joined : (m n : ℕ) (t : Tables) {u : Tables} → Joined t → m < node_limit → n < node_limit → u ≡ merged m n t → Joined u
merged-joined m n t h lm ln e = subst Joined (sym e) (merge-forest h lm ln)

module _ (p : ℕ) (t : Tables) {u : Tables} where
  pub property-is : u ≡ merged (own_node p) 0 t → with_property p u ≡ as_property p t
  unfolding as_property
  property-is e = ap (with_property p) e

  pub property-joined : Joined t → p < variable_limit → u ≡ as_property p t → Joined u
  unfolding as_property
  property-joined h l e = subst Joined (sym e) (merge-forest h (omega arith) (omega arith))

-- flagged where the datatype is the one that the flag speaks of
when-is : (f : Tables → Tables) {b c : Bool} {t u : Tables} → b ≡ c → u ≡ t → when c f u ≡ when b f t
when-is f e h = λ i. when (sym e i) f (h i)

module _ (x k : ℕ) (t : Tables) {f : ℕ} {u : Tables} (ef : f ≡ family (datatype_of k)) (e : u ≡ merged (own_node x) f t) where
  pub at-most-low : k ≡ 5 → with_low x u ≡ at_most x (datatype_of k) t
  unfolding at_most
  at-most-low h = when-is (with_low x) (is-integer k ∙ eq-eqb k 5 h) (e ∙ ap (λ g. merged (own_node x) g t) ef)

  pub at-most-other : (k ≡ 5 → ⊥) → u ≡ at_most x (datatype_of k) t
  unfolding at_most
  at-most-other h = when-is (with_low x) (is-integer k ∙ ne_eqb k 5 h) (e ∙ ap (λ g. merged (own_node x) g t) ef)

module _ (p k : ℕ) (t : Tables) {f : ℕ} {u v : Tables}
    (ef : f ≡ family (datatype_of k)) (eu : u ≡ as_property p t) (ev : v ≡ merged (range_node p) f u) where
  noted : v ≡ merged (range_node p) (family (datatype_of k)) (as_property p t)
  noted = ev ∙ ap₂ (merged (range_node p)) ef eu

  pub at-least-high : k ≡ 3 → with_high p v ≡ at_least p (datatype_of k) t
  unfolding at_least
  at-least-high h = when-is (with_high p) (is-decimal k ∙ eq-eqb k 3 h) noted

  pub at-least-other : (k ≡ 3 → ⊥) → v ≡ at_least p (datatype_of k) t
  unfolding at_least
  at-least-other h = when-is (with_high p) (is-decimal k ∙ ne_eqb k 3 h) noted

pub edge-is : (p x : ℕ) (t : Tables) {u v : Tables} → u ≡ as_property p t → v ≡ merged (range_node p) (own_node x) u → with_edge p x v ≡ edge p x t
unfolding edge
edge-is p x t eu ev = ap (with_edge p x) (ev ∙ ap (merged (range_node p) (own_node x)) eu)

-- ── a property and its object ───────────────────────────────────────────────────────────────

pub variable-in : {q : Codes.Place} {x : ℕ} → q ≡ Variable x → PlaceIn q → x < variable_limit
variable-in e h = rw e at h

module _ (p o : Codes.Place) (t : Tables) {u : Tables} where
  pub relates-open : {x y : ℕ} → p ≡ Variable x → o ≡ Variable y → u ≡ edge x y t → u ≡ related (place_of p) (place_of o) t
  unfolding related
  relates-open ep eo e = rw (ep, eo) e

  pub relates-object : {x k : ℕ} (d : ℕ) → p ≡ Variable x → o ≡ Known k → datatype_of d ≡ own_datatype (type_of k) → u ≡ at_least x (datatype_of d) t → u ≡ related (place_of p) (place_of o) t
  unfolding related
  relates-object d ep eo ed e = rw (ep, eo, ← ed) e

  module _ {k : ℕ} (ep : p ≡ Known k) where
    pub relates-plain : k < 8 → u ≡ impossible t → u ≡ related (place_of p) (place_of o) t
    unfolding related
    relates-plain l e = rw (ep, plain_code k l) (go (place_of o))
      where
        go : (q : Place) → u ≡ related (known (plain (datatype_of k))) q t
        go (variable x) = e
        go (known τ) = e

    pub relates-range : {y : ℕ} → 8 ≤ k → o ≡ Variable y → u ≡ at_most y (datatype_of (k - 8)) t → u ≡ related (place_of p) (place_of o) t
    unfolding related
    relates-range l eo e = rw (ep, eo, range-code k l) e

    module _ {j : ℕ} (d : ℕ) {b : Bool} (l : 8 ≤ k) (eo : o ≡ Known j) (ed : datatype_of d ≡ own_datatype (type_of j)) (eb : b ≡ leq_datatype (datatype_of d) (datatype_of (k - 8))) where
      pub relates-fit : b ≡ true → u ≡ t → u ≡ related (place_of p) (place_of o) t
      unfolding related
      relates-fit h e = rw (ep, eo, range-code k l, ← ed, ← eb, h) e

      pub relates-unfit : b ≡ false → u ≡ impossible t → u ≡ related (place_of p) (place_of o) t
      unfolding related
      relates-unfit h e = rw (ep, eo, range-code k l, ← ed, ← eb, h) e
