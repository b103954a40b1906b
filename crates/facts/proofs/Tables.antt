-- What tables say of the variables' types, and what one more merge or flag adds to it.
use mathlib.Core.Path.{◌≡◌, ap, sym, ◌∙◌, subst, subst₂}
use mathlib.Core.Logic.{◌↔◌}
use Prim.Native.Nat.{ℕ, ◌+◌, ◌-◌, ◌<◌}
use native.Mathlib.Decide.{ℕ_discrete}
use native.Mathlib.Omega.{arith}
use mathlib.Core.List.{List}
use mathlib.Core.Bool.{Bool, true, false, cond}
use lib.Dec.{T, ltb}
use lib.ListN.{get_or, length, set, length-set}
use lib.Seq.{get_or-set_same, get_or-set_other}
use borrow.Author.Tests.{lt-ltb, le-ltb}
use Rattle.definitions.specs.Limits.{variable_limit}
use Rattle.definitions.specs.Types.{Datatype, decimal, integer, Ty, leq_datatype}
use Rattle.definitions.specs.Typing.{Written, unbound, undecided}
use Rattle.codes.specs.Family.{family, own_datatype}
use Rattle.facts.specs.UnionFind.{Forest}
use Rattle.facts.specs.declared.noting.Tables.{Tables}
use Rattle.facts.specs.Tables.{family_limit, range_nodes, node_limit, edge_limit, own_node, range_node, edge_at, merged, with_low, with_high, with_property, with_edge, when}
use Rattle.laws.specs.Lists.{flag}
use Rattle.facts.specs.Infer.{root}
use Rattle.facts.proofs.Family.{is_range, range_or, family-below}
use Rattle.facts.proofs.UnionFind.{Respects, merge-forest, merge_keeps, merge-joins, respects-merge, respects-before, respects-joined}

-- ── flags ───────────────────────────────────────────────────────────────────────────────────

-- something holds of each variable that is flagged
abbrev pub Flagged : List Bool → (ℕ → Type 0) → Type 0
Flagged l P = (x : ℕ) → T (flag l x) → P x

-- something holds of each pair that is flagged
abbrev pub Paired : List Bool → (ℕ → ℕ → Type 0) → Type 0
Paired l P = (p x : ℕ) → x < variable_limit → T (flag l (edge_at p x)) → P p x

module _ (l : List Bool) (k : ℕ) (inside : k < length l) where
  pub flag-new : T (flag (set l k true) k)
  flag-new = subst T (sym (get_or-set_same l k true false inside)) tt

  pub flag-old : Flagged l (λ i. T (flag (set l k true) i))
  flag-old i t = go (ℕ_discrete i k)
    where
      go : Dec (i ≡ k) → T (flag (set l k true) i)
      go (yes e) = subst (λ j. T (flag (set l k true) j)) (sym e) flag-new
      go (no d) = subst T (sym (get_or-set_other l k i true false d)) t

  flag-before : (i : ℕ) → (i ≡ k → ⊥) → T (flag (set l k true) i) → T (flag l i)
  flag-before i d t = subst T (get_or-set_other l k i true false d) t

  pub flag-says : (P : ℕ → Type 0) → Flagged (set l k true) P ↔ (Flagged l P × P k)
  flag-says P = (λ f. (λ i t. f i (flag-old i t), f k flag-new), λ f i t. go f i t (ℕ_discrete i k))
    where
      go : Flagged l P × P k → (i : ℕ) → T (flag (set l k true) i) → Dec (i ≡ k) → P i
      go f i t (yes e) = subst P (sym e) f.1
      go f i t (no d) = f.0 i (flag-before i d t)

pub pair-says : (l : List Bool) (p x : ℕ) → edge_at p x < length l → x < variable_limit
    → (P : ℕ → ℕ → Type 0) → Paired (set l (edge_at p x) true) P ↔ (Paired l P × P p x)
pair-says l p x inside lx P = (
  λ f. (λ q y ly t. f q y ly (flag-old l (edge_at p x) inside (edge_at q y) t), f p x lx (flag-new l (edge_at p x) inside)),
  λ f q y ly t. go f q y ly t (ℕ_discrete (edge_at q y) (edge_at p x)),
)
  where
    go : Paired l P × P p x → (q y : ℕ) → y < variable_limit → T (flag (set l (edge_at p x) true) (edge_at q y)) → Dec (edge_at q y ≡ edge_at p x) → P q y
    go f q y ly t (yes e) =
        let first : p ≡ q = omega arith in
        let second : x ≡ y = omega arith in
        subst₂ P first second f.1
    go f q y ly t (no d) = f.0 q y ly (flag-before l (edge_at p x) inside (edge_at q y) d t)

-- ── what tables say of types ────────────────────────────────────────────────────────────────

-- types for the variables; a variable that is no property has a datatype to spare, where a property has that of its range
pub record Environment : Type 0 where
  pub type : ℕ → Ty
  pub spare : ℕ → Datatype

module _ (E : Environment) where
  abbrev pub own_of : ℕ → Datatype
  own_of x = own_datatype (E.type x)

  abbrev pub range_of : ℕ → Datatype
  range_of p = range_or (E.spare p) (E.type p)

  -- the family of a node
  unfoldable pub value : ℕ → ℕ
  value n = cond (ltb n family_limit) n (cond (ltb n range_nodes) (family (own_of (n - family_limit))) (family (range_of (n - range_nodes))))

  pub value-small : (n : ℕ) → n < family_limit → value n ≡ n
  unfolding value
  value-small n h = rw (lt-ltb n family_limit h)

  pub value-family : (d : Datatype) → value (family d) ≡ family d
  value-family d = value-small (family d) (family-below d)

  pub value-own : (x : ℕ) → x < variable_limit → value (own_node x) ≡ family (own_of x)
  unfolding value
  value-own x h =
      rw (le-ltb (family_limit + x) family_limit (omega arith), lt-ltb (family_limit + x) range_nodes (omega arith))
      (ap (λ y. family (own_of y)) (let e : family_limit + x - family_limit ≡ x = omega arith in e))

  pub value-range : (p : ℕ) → value (range_node p) ≡ family (range_of p)
  unfolding value
  value-range p =
      rw (le-ltb (range_nodes + p) family_limit (omega arith), le-ltb (range_nodes + p) range_nodes (omega arith))
      (ap (λ q. family (range_of q)) (let e : range_nodes + p - range_nodes ≡ p = omega arith in e))

  abbrev pub Low : ℕ → Type 0
  Low x = T (leq_datatype (own_of x) integer)

  abbrev pub High : ℕ → Type 0
  High p = T (leq_datatype decimal (range_of p))

  abbrev pub Property : ℕ → Type 0
  Property p = T (is_range (E.type p))

  abbrev pub Edge : ℕ → ℕ → Type 0
  Edge p x = T (leq_datatype (own_of x) (range_of p))

  pub record Satisfies (t : Tables) : Type 0 where
    pub families : Respects value t.families.parents
    pub lows : Flagged t.low Low
    pub highs : Flagged t.high High
    pub properties : Flagged t.property Property
    pub edges : Paired t.edges Edge

-- ── tables that hang together ───────────────────────────────────────────────────────────────

-- an open variable
abbrev pub Open : List Written → ℕ → Type 0
Open ws x = (x < variable_limit) × (get_or ws x unbound ≡ undecided)

pub record Sized (t : Tables) : Type 0 where
  pub low : length t.low ≡ variable_limit
  pub high : length t.high ≡ variable_limit
  pub property : length t.property ≡ variable_limit
  pub edges : length t.edges ≡ edge_limit

-- a property and an object, both open variables, of which the range and the datatype are of one family
abbrev pub Pair : List Written → Tables → (property object : ℕ) → Type 0
Pair ws t p x = (root t (range_node p) ≡ root t (own_node x)) × T (flag t.property p) × Open ws p × Open ws x

-- where there is a flag, the nodes that it speaks of are merged
pub record Coherent (ws : List Written) (t : Tables) : Type 0 where
  pub lows : Flagged t.low (λ x. root t (own_node x) ≡ root t 2)
  pub highs : Flagged t.high (λ p. (root t (range_node p) ≡ root t 2) × T (flag t.property p))
  pub properties : Flagged t.property (λ p. root t (own_node p) ≡ root t 0)
  pub edges : Paired t.edges (Pair ws t)

pub record Sound (ws : List Written) (t : Tables) : Type 0 where
  pub forest : Forest node_limit t.families.parents
  pub sized : Sized t
  pub coherent : Coherent ws t

-- ── one thing more ──────────────────────────────────────────────────────────────────────────

-- u hangs together; it says what t says, and F
pub record Adds (ws : List Written) (t u : Tables) (F : Environment → Type 0) : Type 0 where
  pub sound : Sound ws u
  pub says : (E : Environment) → Satisfies E u ↔ (Satisfies E t × F E)

module _ {ws : List Written} {t u : Tables} {F : Environment → Type 0} (a : Adds ws t u F) where
  pub adds_then : {v : Tables} {G : Environment → Type 0} → Adds ws u v G → Adds ws t v (λ E. F E × G E)
  adds_then b = record {
    sound = b.sound;
    says = λ E. (
      λ h. let q = (b.says E).0 h in
          let r = (a.says E).0 q.0 in
          (r.0, (r.1, q.1)),
      λ h. (b.says E).1 ((a.says E).1 (h.0, h.1.0), h.1.1),
    );
  }

  -- F in other words
  pub adds-as : {G : Environment → Type 0} → ((E : Environment) → F E ↔ G E) → Adds ws t u G
  adds-as same = record {
    sound = a.sound;
    says = λ E. (
      λ h. let r = (a.says E).0 h in (r.0, (same E).0 r.1),
      λ h. (a.says E).1 (h.0, (same E).1 h.1),
    );
  }

-- only where a test is passed
pub adds-when : {ws : List Written} {t : Tables} {F : Environment → Type 0} (b : Bool) (f : Tables → Tables)
    → Sound ws t → (T b → Adds ws t (f t) F) → Adds ws t (when b f t) (λ E. T b → F E)
adds-when true f s a = adds-as (a tt) (λ E. (λ h k. h, λ h. h tt))
adds-when false f s a = record { sound = s; says = λ E. (λ h. (h, λ k. absurd k), λ h. h.0) }

module _ {ws : List Written} (t : Tables) (s : Sound ws t) where
  -- ── a merge ───────────────────────────────────────────────────────────────────────────────

  module _ (m n : ℕ) (lm : m < node_limit) (ln : n < node_limit) where
    pub merged_keeps : (i j : ℕ) → root t i ≡ root t j → root (merged m n t) i ≡ root (merged m n t) j
    merged_keeps = merge_keeps s.forest lm ln

    pub merged-joins : root (merged m n t) m ≡ root (merged m n t) n
    merged-joins = merge-joins s.forest lm ln

    pub merged-adds : Adds ws t (merged m n t) (λ E. value E m ≡ value E n)
    merged-adds = record {
      sound = record {
        forest = merge-forest s.forest lm ln;
        sized = record { low = s.sized.low; high = s.sized.high; property = s.sized.property; edges = s.sized.edges };
        coherent = record {
          lows = λ x h. merged_keeps (own_node x) 2 (s.coherent.lows x h);
          highs = λ p h. let r = s.coherent.highs p h in (merged_keeps (range_node p) 2 r.0, r.1);
          properties = λ p h. merged_keeps (own_node p) 0 (s.coherent.properties p h);
          edges = λ p x l h. let r = s.coherent.edges p x l h in (merged_keeps (range_node p) (own_node x) r.0, r.1, r.2, r.3);
        };
      };
      says = λ E. (
        λ h. (
          record {
            families = respects-before s.forest lm ln (value E) h.families;
            lows = h.lows;
            highs = h.highs;
            properties = h.properties;
            edges = h.edges;
          },
          respects-joined s.forest lm ln (value E) h.families,
        ),
        λ h. record {
          families = respects-merge s.forest lm ln (value E) h.0.families h.1;
          lows = h.0.lows;
          highs = h.0.highs;
          properties = h.0.properties;
          edges = h.0.edges;
        },
      );
    }

  -- ── a flag, where its nodes are merged ────────────────────────────────────────────────────

  module _ (x : ℕ) (lx : x < variable_limit) where
    inside : (l : List Bool) → length l ≡ variable_limit → x < length l
    inside l e = omega arith

    pub low-adds : root t (own_node x) ≡ root t 2 → Adds ws t (with_low x t) (λ E. Low E x)
    low-adds e = record {
      sound = record {
        forest = s.forest;
        sized = record { low = length-set t.low x true ∙ s.sized.low; high = s.sized.high; property = s.sized.property; edges = s.sized.edges };
        coherent = record {
          lows = (flags (λ y. root t (own_node y) ≡ root t 2)).1 (s.coherent.lows, e);
          highs = s.coherent.highs;
          properties = s.coherent.properties;
          edges = s.coherent.edges;
        };
      };
      says = λ E. (
        λ h. let r = (flags (Low E)).0 h.lows in
            (record { families = h.families; lows = r.0; highs = h.highs; properties = h.properties; edges = h.edges }, r.1),
        λ h. record {
          families = h.0.families;
          lows = (flags (Low E)).1 (h.0.lows, h.1);
          highs = h.0.highs;
          properties = h.0.properties;
          edges = h.0.edges;
        },
      );
    }
      where
        flags : (P : ℕ → Type 0) → Flagged (set t.low x true) P ↔ (Flagged t.low P × P x)
        flags = flag-says t.low x (inside t.low s.sized.low)

    pub high-adds : root t (range_node x) ≡ root t 2 → T (flag t.property x) → Adds ws t (with_high x t) (λ E. High E x)
    high-adds e p = record {
      sound = record {
        forest = s.forest;
        sized = record { low = s.sized.low; high = length-set t.high x true ∙ s.sized.high; property = s.sized.property; edges = s.sized.edges };
        coherent = record {
          lows = s.coherent.lows;
          highs = (flags (λ y. (root t (range_node y) ≡ root t 2) × T (flag t.property y))).1 (s.coherent.highs, (e, p));
          properties = s.coherent.properties;
          edges = s.coherent.edges;
        };
      };
      says = λ E. (
        λ h. let r = (flags (High E)).0 h.highs in
            (record { families = h.families; lows = h.lows; highs = r.0; properties = h.properties; edges = h.edges }, r.1),
        λ h. record {
          families = h.0.families;
          lows = h.0.lows;
          highs = (flags (High E)).1 (h.0.highs, h.1);
          properties = h.0.properties;
          edges = h.0.edges;
        },
      );
    }
      where
        flags : (P : ℕ → Type 0) → Flagged (set t.high x true) P ↔ (Flagged t.high P × P x)
        flags = flag-says t.high x (inside t.high s.sized.high)

    pub property-flag : T (flag (set t.property x true) x)
    property-flag = flag-new t.property x (inside t.property s.sized.property)

    pub property-adds : root t (own_node x) ≡ root t 0 → Adds ws t (with_property x t) (λ E. Property E x)
    property-adds e = record {
      sound = record {
        forest = s.forest;
        sized = record { low = s.sized.low; high = s.sized.high; property = length-set t.property x true ∙ s.sized.property; edges = s.sized.edges };
        coherent = record {
          lows = s.coherent.lows;
          highs = λ p h. let r = s.coherent.highs p h in (r.0, old p r.1);
          properties = (flags (λ y. root t (own_node y) ≡ root t 0)).1 (s.coherent.properties, e);
          edges = λ p y l h. let r = s.coherent.edges p y l h in (r.0, old p r.1, r.2, r.3);
        };
      };
      says = λ E. (
        λ h. let r = (flags (Property E)).0 h.properties in
            (record { families = h.families; lows = h.lows; highs = h.highs; properties = r.0; edges = h.edges }, r.1),
        λ h. record {
          families = h.0.families;
          lows = h.0.lows;
          highs = h.0.highs;
          properties = (flags (Property E)).1 (h.0.properties, h.1);
          edges = h.0.edges;
        },
      );
    }
      where
        flags : (P : ℕ → Type 0) → Flagged (set t.property x true) P ↔ (Flagged t.property P × P x)
        flags = flag-says t.property x (inside t.property s.sized.property)

        old : Flagged t.property (λ p. T (flag (set t.property x true) p))
        old = flag-old t.property x (inside t.property s.sized.property)

  pub edge-adds : (p x : ℕ) → Pair ws t p x → Adds ws t (with_edge p x t) (λ E. Edge E p x)
  edge-adds p x pair = record {
    sound = record {
      forest = s.forest;
      sized = record {
        low = s.sized.low;
        high = s.sized.high;
        property = s.sized.property;
        edges = length-set t.edges (edge_at p x) true ∙ s.sized.edges;
      };
      coherent = record {
        lows = s.coherent.lows;
        highs = s.coherent.highs;
        properties = s.coherent.properties;
        edges = (flags (Pair ws t)).1 (s.coherent.edges, pair);
      };
    };
    says = λ E. (
      λ h. let r = (flags (Edge E)).0 h.edges in
          (record { families = h.families; lows = h.lows; highs = h.highs; properties = h.properties; edges = r.0 }, r.1),
      λ h. record {
        families = h.0.families;
        lows = h.0.lows;
        highs = h.0.highs;
        properties = h.0.properties;
        edges = (flags (Edge E)).1 (h.0.edges, h.1);
      },
    );
  }
    where
      flags : (P : ℕ → ℕ → Type 0) → Paired (set t.edges (edge_at p x) true) P ↔ (Paired t.edges P × P p x)
      flags = pair-says t.edges p x (omega (arith, s.sized.edges, pair.2.0, pair.3.0)) pair.3.0
