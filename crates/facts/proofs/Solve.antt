-- Solving sound tables: types that satisfy them, the greatest type that each variable can have, and where no types are above all.
use mathlib.Core.Path.{◌≡◌, refl, ap, sym, ◌∙◌, subst}
use mathlib.Core.Logic.{◌⊎◌, inl, inr, ⊎_elim}
use Prim.Native.Nat.{ℕ, zero, suc, ◌-◌, ◌≤◌, ◌<◌}
use native.Mathlib.Omega.{arith}
use mathlib.Core.List.{List}
use mathlib.Core.Bool.{Bool, true, false, cond, not, ◌&&◌, ◌||◌}
use lib.Dec.{T, eqb, ltb, eqb→eq, eqb_refl, ltb→lt, lit<}
use borrow.Author.Tests.{lt-ltb, le-ltb}
use Rattle.definitions.specs.Limits.{variable_limit}
use Rattle.definitions.specs.Types.{Datatype, string, decimal, date_time, integer, leq_datatype, leq, same_datatype}
use Rattle.definitions.specs.Typing.{Written}
use Rattle.laws.proofs.Tests.{and_left, and_right, and_make, or_cases, or_left, or_right, decide, by-test}
use Rattle.laws.proofs.Order.{same-datatype}
use Rattle.laws.proofs.Ranges.{split}
use Rattle.codes.specs.Family.{family, own_datatype}
use Rattle.facts.specs.declared.noting.Tables.{Tables}
use Rattle.facts.specs.Tables.{family_limit, range_nodes, own_node, range_node}
use Rattle.laws.specs.Lists.{flag}
use Rattle.facts.specs.Infer.{of_family, made, root, apart}
use Rattle.facts.proofs.Family.{is_range, range_or, family-below, datatype-trans, leq-family, not-between, leq-within, leq-at-most, leq-at-least, leq-ranges, leq-datatypes, own-leq, range-leq}
use Rattle.facts.proofs.UnionFind.{root_below, root-root, root-zero}
use Rattle.facts.proofs.Tables.{Flagged, Paired, Environment, own_of, range_of, value, value-small, value-family, value-own, value-range, Low, High, Edge, Satisfies, Open, Pair, Sound}

-- ── types made of families ──────────────────────────────────────────────────────────────────

of-family : (f : ℕ) (d : Datatype) → f < family_limit → family d ≡ 2 → family (of_family f d) ≡ f
of-family zero d l e = refl
of-family (suc zero) d l e = refl
of-family (suc (suc zero)) d l e = e
of-family (suc (suc (suc zero))) d l e = refl
of-family (suc (suc (suc (suc f)))) d l e = absurd (omega arith)

not-decimal : (f : ℕ) → T (same_datatype (of_family f integer) decimal) → ⊥
not-decimal zero t = t
not-decimal (suc zero) t = t
not-decimal (suc (suc zero)) t = t
not-decimal (suc (suc (suc f))) t = t

not-integer : (f : ℕ) → T (same_datatype (of_family f decimal) integer) → ⊥
not-integer zero t = t
not-integer (suc zero) t = t
not-integer (suc (suc zero)) t = t
not-integer (suc (suc (suc f))) t = t

-- the datatype of a range
abbrev pub range_made : (high : Bool) → ℕ → Datatype
range_made high g = of_family g (cond high decimal integer)

range-made : (high : Bool) (g : ℕ) → g < family_limit → family (range_made high g) ≡ g
range-made true g l = of-family g decimal l refl
range-made false g l = of-family g integer l refl

range-integer : (high : Bool) (g : ℕ) → T high → T (same_datatype (range_made high g) integer) → ⊥
range-integer true g h t = not-integer g t
range-integer false g h t = h

range-decimal : (high : Bool) (g : ℕ) → T (not high) → T (same_datatype (range_made high g) decimal) → ⊥
range-decimal true g h t = h
range-decimal false g h t = not-decimal g t

-- b tells whether it is a property
module _ (high : Bool) (f g : ℕ) where
  own-made : (b low : Bool) → (T b → f ≡ 0) → f < family_limit → family (own_datatype (made b low high f g)) ≡ f
  own-made true low e l = sym (e tt)
  own-made false true e l = of-family f integer l refl
  own-made false false e l = of-family f decimal l refl

  own-decimal : (b low : Bool) → T low → T (same_datatype (own_datatype (made b low high f g)) decimal) → ⊥
  own-decimal true low h t = t
  own-decimal false true h t = not-decimal f t
  own-decimal false false h t = h

  own-integer : (b low : Bool) → T (not low) → T (same_datatype (own_datatype (made b low high f g)) integer) → ⊥
  own-integer true low h t = t
  own-integer false true h t = h
  own-integer false false h t = not-integer f t

  range-is : (b low : Bool) → range_or (range_made high g) (made b low high f g) ≡ range_made high g
  range-is true low = refl
  range-is false low = refl

  made_range : (b low : Bool) → T b → T (is_range (made b low high f g))
  made_range true low h = tt
  made_range false low h = h

  made_plain : (b low : Bool) → T (not b) → T (not (is_range (made b low high f g)))
  made_plain true low h = h
  made_plain false low h = tt

-- ── choices ─────────────────────────────────────────────────────────────────────────────────

-- the family of what is left open, and of each variable whether its datatype is integer and whether its range is decimal
pub record Choice : Type 0 where
  pub rest : ℕ
  pub small : rest < family_limit
  pub low : ℕ → Bool
  pub high : ℕ → Bool

module _ (t : Tables) where
  abbrev pub family_of : Choice → ℕ → ℕ
  family_of c n = cond (ltb (root t n) family_limit) (root t n) c.rest

  abbrev pub solution : Choice → Environment
  solution c = record {
    type = λ x. made (flag t.property x) (c.low x) (c.high x) (family_of c (own_node x)) (family_of c (range_node x));
    spare = λ x. range_made (c.high x) (family_of c (range_node x));
  }

  -- what the tables ask of a choice
  pub record Allowed (c : Choice) : Type 0 where
    pub lows : Flagged t.low (λ x. T (c.low x))
    pub highs : Flagged t.high (λ p. T (c.high p))
    pub edges : Paired t.edges (λ p x. family_of c (range_node p) ≡ 2 → T (c.low x || c.high p))

  -- the greatest type of each variable: decimal and range(integer), unless the tables ask for another
  abbrev pub greatest : Choice
  greatest = record { rest = 3; small = lit< tt; low = flag t.low; high = flag t.high }

  -- the datatypes as great as can be, the ranges as small; and the other way round
  abbrev pub own_greatest : (rest : ℕ) → rest < family_limit → Choice
  own_greatest g small = record { rest = g; small = small; low = flag t.low; high = λ p. true }

  abbrev pub range_greatest : Choice
  range_greatest = record { rest = 3; small = lit< tt; low = λ x. true; high = flag t.high }

  -- no family of the variable is left open
  abbrev pub Settled : ℕ → Type 0
  Settled x = (root t (own_node x) < family_limit) × (T (flag t.property x) → root t (range_node x) < family_limit)

  -- of a property and its object, if numbers, the tables ask one for integer or decimal
  abbrev pub Tight : Type 0
  Tight = Paired t.edges (λ p x. root t (range_node p) ≡ 2 → T (flag t.low x || flag t.high p))

  pub own-allowed : (g : ℕ) (small : g < family_limit) → Allowed (own_greatest g small)
  own-allowed g small = record { lows = λ x k. k; highs = λ p k. tt; edges = λ p x l k e. or_right (flag t.low x) true tt }

  range-allowed : Allowed range_greatest
  range-allowed = record { lows = λ x k. tt; highs = λ p k. k; edges = λ p x l k e. tt }

module _ {ws : List Written} (t : Tables) (s : Sound ws t) where
  -- ── types that satisfy the tables ─────────────────────────────────────────────────────────

  module _ (E : Environment) (h : Satisfies E t) where
    -- a node whose family is known has that family
    root-value : (n : ℕ) → root t n < family_limit → value E n ≡ root t n
    root-value n l = sym (h.families n) ∙ value-small E (root t n) l

    root_kept : (d : Datatype) → T (eqb (root t (family d)) (family d))
    root_kept d = subst (λ n. T (eqb n (family d))) (sym (value-family E d) ∙ root-value (family d) below) (eqb_refl (family d))
      where
        below : root t (family d) < family_limit
        below = omega (arith, root_below t.families.parents s.forest.falls (family d), family-below d)

    pub satisfied-apart : T (apart t)
    unfolding apart
    satisfied-apart =
        and_make (eqb (root t 1) 1) (eqb (root t 2) 2 && eqb (root t 3) 3) (root_kept string)
        (and_make (eqb (root t 2) 2) (eqb (root t 3) 3) (root_kept decimal) (root_kept date_time))

  module _ (good : T (apart t)) where
    root-family : (n : ℕ) → n < family_limit → root t n ≡ n
    unfolding apart
    root-family zero l = root-zero s.forest
    root-family (suc zero) l = eqb→eq (root t 1) 1 (and_left (eqb (root t 1) 1) (eqb (root t 2) 2 && eqb (root t 3) 3) good)
    root-family (suc (suc zero)) l =
        eqb→eq (root t 2) 2 (and_left (eqb (root t 2) 2) (eqb (root t 3) 3) (and_right (eqb (root t 1) 1) (eqb (root t 2) 2 && eqb (root t 3) 3) good))
    root-family (suc (suc (suc zero))) l =
        eqb→eq (root t 3) 3 (and_right (eqb (root t 2) 2) (eqb (root t 3) 3) (and_right (eqb (root t 1) 1) (eqb (root t 2) 2 && eqb (root t 3) 3) good))
    root-family (suc (suc (suc (suc n)))) l = absurd (omega arith)

    -- ── the types of a choice ───────────────────────────────────────────────────────────────

    module _ (c : Choice) where
      abbrev fam : ℕ → ℕ
      fam n = family_of t c n

      abbrev Γ : Environment
      Γ = solution t c

      fam-below : (n : ℕ) → fam n < family_limit
      fam-below n = by-test (λ r. r < family_limit) (ltb (root t n) family_limit) (root t n) c.rest (λ k. ltb→lt (root t n) family_limit k) (λ k. c.small)

      fam-known : (n : ℕ) → root t n < family_limit → fam n ≡ root t n
      fam-known n l = rw (lt-ltb (root t n) family_limit l)

      fam-open : (n : ℕ) → family_limit ≤ root t n → fam n ≡ c.rest
      fam-open n l = rw (le-ltb (root t n) family_limit l)

      fam-root : (m n : ℕ) → root t m ≡ root t n → fam m ≡ fam n
      fam-root m n e = ap (λ r. cond (ltb r family_limit) r c.rest) e

      fam-family : (n : ℕ) → n < family_limit → fam n ≡ n
      fam-family n l = fam-known n (subst (λ r. r < family_limit) (sym (root-family n l)) l) ∙ root-family n l

      own-family : (x : ℕ) → family (own_of Γ x) ≡ fam (own_node x)
      own-family x =
          own-made (c.high x) (fam (own_node x)) (fam (range_node x)) (flag t.property x) (c.low x)
          (λ k. fam-root (own_node x) 0 (s.coherent.properties x k) ∙ fam-family 0 (omega arith)) (fam-below (own_node x))

      range-of : (p : ℕ) → range_of Γ p ≡ range_made (c.high p) (fam (range_node p))
      range-of p = range-is (c.high p) (fam (own_node p)) (fam (range_node p)) (flag t.property p) (c.low p)

      range-family : (p : ℕ) → family (range_of Γ p) ≡ fam (range_node p)
      range-family p = ap family (range-of p) ∙ range-made (c.high p) (fam (range_node p)) (fam-below (range_node p))

      is-range : (p : ℕ) → T (flag t.property p) → T (is_range (Γ.type p))
      is-range p = made_range (c.high p) (fam (own_node p)) (fam (range_node p)) (flag t.property p) (c.low p)

      is_plain : (x : ℕ) → T (not (flag t.property x)) → T (not (is_range (Γ.type x)))
      is_plain x = made_plain (c.high x) (fam (own_node x)) (fam (range_node x)) (flag t.property x) (c.low x)

      low-not-decimal : (x : ℕ) → T (c.low x) → T (same_datatype (own_of Γ x) decimal) → ⊥
      low-not-decimal x = own-decimal (c.high x) (fam (own_node x)) (fam (range_node x)) (flag t.property x) (c.low x)

      else-not-integer : (x : ℕ) → T (not (c.low x)) → T (same_datatype (own_of Γ x) integer) → ⊥
      else-not-integer x = own-integer (c.high x) (fam (own_node x)) (fam (range_node x)) (flag t.property x) (c.low x)

      high-not-integer : (p : ℕ) → T (c.high p) → T (same_datatype (range_of Γ p) integer) → ⊥
      high-not-integer p h q = range-integer (c.high p) (fam (range_node p)) h (subst (λ d. T (same_datatype d integer)) (range-of p) q)

      else-not-decimal : (p : ℕ) → T (not (c.high p)) → T (same_datatype (range_of Γ p) decimal) → ⊥
      else-not-decimal p h q = range-decimal (c.high p) (fam (range_node p)) h (subst (λ d. T (same_datatype d decimal)) (range-of p) q)

      value-solution : (n : ℕ) → value Γ n ≡ fam n
      value-solution n = go (split family_limit n) (split range_nodes n)
        where
          go : (family_limit ≤ n) ⊎ (n < family_limit) → (range_nodes ≤ n) ⊎ (n < range_nodes) → value Γ n ≡ fam n
          go (inr l) r = value-small Γ n l ∙ sym (fam-family n l)
          go (inl l) (inr r) =
              let e : n ≡ own_node (n - family_limit) = omega arith in
              ap (value Γ) e ∙ value-own Γ (n - family_limit) (omega arith) ∙ own-family (n - family_limit) ∙ ap fam (sym e)
          go (inl l) (inl r) =
              let e : n ≡ range_node (n - range_nodes) = omega arith in
              ap (value Γ) e ∙ value-range Γ (n - range_nodes) ∙ range-family (n - range_nodes) ∙ ap fam (sym e)

      pub solution-satisfies : Allowed t c → Satisfies Γ t
      solution-satisfies a = record {
        families = λ n. value-solution (root t n) ∙ fam-root (root t n) n (root-root s.forest n) ∙ sym (value-solution n);
        lows = lows;
        highs = highs;
        properties = is-range;
        edges = edges;
      }
        where
          number : (n : ℕ) → root t n ≡ root t 2 → fam n ≡ 2
          number n e = fam-root n 2 e ∙ fam-family 2 (omega arith)

          lows : Flagged t.low (Low Γ)
          lows x k = leq-within (own_of Γ x) integer (own-family x ∙ number (own_node x) (s.coherent.lows x k)) (λ p q. low-not-decimal x (a.lows x k) p)

          highs : Flagged t.high (High Γ)
          highs p k =
              leq-within decimal (range_of Γ p) (sym (range-family p ∙ number (range_node p) (s.coherent.highs p k).0))
              (λ q r. high-not-integer p (a.highs p k) r)

          edges : Paired t.edges (Edge Γ)
          edges p x l k = leq-within (own_of Γ x) (range_of Γ p) alike clash
            where
              alike : family (own_of Γ x) ≡ family (range_of Γ p)
              alike = own-family x ∙ fam-root (own_node x) (range_node p) (sym (s.coherent.edges p x l k).0) ∙ sym (range-family p)

              clash : T (same_datatype (own_of Γ x) decimal) → T (same_datatype (range_of Γ p) integer) → ⊥
              clash d i =
                  ⊎_elim (λ h. low-not-decimal x h d) (λ h. high-not-integer p h i)
                  (or_cases (c.low x) (c.high p) (a.edges p x l k (sym (range-family p) ∙ ap family (same-datatype (range_of Γ p) integer i))))

    -- ── the greatest type that each variable can have ───────────────────────────────────────

    abbrev top : Environment
    top = solution t (greatest t)

    pub greatest-allowed : Tight t → Allowed t (greatest t)
    greatest-allowed tight = record {
      lows = λ x k. k;
      highs = λ p k. k;
      edges = λ p x l k e. tight p x l k (number (range_node p) e (split family_limit (root t (range_node p))));
    }
      where
        number : (n : ℕ) → fam (greatest t) n ≡ 2 → (family_limit ≤ root t n) ⊎ (root t n < family_limit) → root t n ≡ 2
        number n e (inl l) = absurd (omega (arith, fam-open (greatest t) n l))
        number n e (inr l) = sym (fam-known (greatest t) n l) ∙ e

    module _ (E : Environment) (h : Satisfies E t) (x : ℕ) (lx : x < variable_limit) (settled : Settled t x) where
      above-range : T (flag t.property x) → T (leq (E.type x) (top.type x))
      above-range k =
          leq-ranges (E.type x) (top.type x) (E.spare x) (top.spare x) (h.properties x k) (is-range (greatest t) x k)
          (leq-at-least (range_of top x) (range_of E x) alike
          (λ d. ⊎_elim (h.highs x) (λ l. absurd (else-not-decimal (greatest t) x l d)) (decide (flag t.high x))))
        where
          alike : family (range_of top x) ≡ family (range_of E x)
          alike =
              range-family (greatest t) x ∙ fam-known (greatest t) (range_node x) (settled.1 k)
              ∙ sym (root-value E h (range_node x) (settled.1 k)) ∙ value-range E x

      above-own : T (not (flag t.property x)) → T (leq (E.type x) (top.type x))
      above-own k =
          leq-datatypes (E.type x) (top.type x) (is_plain (greatest t) x k)
          (leq-at-most (own_of E x) (own_of top x) alike
          (λ i. ⊎_elim (h.lows x) (λ l. absurd (else-not-integer (greatest t) x l i)) (decide (flag t.low x))))
        where
          alike : family (own_of E x) ≡ family (own_of top x)
          alike =
              sym (value-own E x lx) ∙ root-value E h (own_node x) settled.0
              ∙ sym (own-family (greatest t) x ∙ fam-known (greatest t) (own_node x) settled.0)

      pub greatest-above : T (leq (E.type x) (top.type x))
      greatest-above = ⊎_elim above-range above-own (decide (flag t.property x))

    -- ── types above those of every choice ───────────────────────────────────────────────────

    module _ (E : Environment) (h : Satisfies E t) (over : (c : Choice) → Allowed t c → (x : ℕ) → Open ws x → T (leq ((solution t c).type x) (E.type x))) where
      -- a family left open would be each of two
      own_is : (x : ℕ) → Open ws x → family_limit ≤ root t (own_node x) → (g : ℕ) (small : g < family_limit) → family (own_of E x) ≡ g
      own_is x o l g small =
          let c = own_greatest t g small in
          sym (leq-family (own_of (solution t c) x) (own_of E x) (own-leq ((solution t c).type x) (E.type x) (over c (own-allowed t g small) x o)))
          ∙ own-family c x ∙ fam-open c (own_node x) l

      range-leq-at : (c : Choice) → Allowed t c → (p : ℕ) → Open ws p → T (flag t.property p) → T (leq_datatype (range_of E p) (range_of (solution t c) p))
      range-leq-at c a p o k =
          range-leq ((solution t c).type p) (E.type p) ((solution t c).spare p) (E.spare p) (h.properties p k) (over c a p o)

      range-is-of : (x : ℕ) → Open ws x → T (flag t.property x) → family_limit ≤ root t (range_node x) → (g : ℕ) (small : g < family_limit) → family (range_of E x) ≡ g
      range-is-of x o k l g small =
          let c = own_greatest t g small in
          leq-family (range_of E x) (range_of (solution t c) x) (range-leq-at c (own-allowed t g small) x o k) ∙ range-family c x ∙ fam-open c (range_node x) l

      pub all_settled : (x : ℕ) → Open ws x → Settled t x
      all_settled x o = (settle (own_node x) (own_is x o), λ k. settle (range_node x) (range-is-of x o k))
        where
          settle : {m : ℕ} (n : ℕ) → (family_limit ≤ root t n → (g : ℕ) → g < family_limit → m ≡ g) → root t n < family_limit
          settle n f = ⊎_elim (λ l. absurd (omega (arith, f l 1 (lit< tt), f l 3 (lit< tt)))) (λ l. l) (split family_limit (root t n))

      -- a pair of which none is asked for would be decimal and range(integer)
      pub all-tight : Tight t
      all-tight p x l k number = go (decide (flag t.low x)) (decide (flag t.high p))
        where
          pair : Pair ws t p x
          pair = s.coherent.edges p x l k

          c : Choice
          c = own_greatest t 3 (lit< tt)

          decimal-own : T (not (flag t.low x)) → T (leq_datatype decimal (own_of E x))
          decimal-own n =
              datatype-trans decimal (own_of (solution t c) x) (own_of E x)
              (leq-within decimal (own_of (solution t c) x) (sym alike) (λ d i. else-not-integer c x n i))
              (own-leq ((solution t c).type x) (E.type x) (over c (own-allowed t 3 (lit< tt)) x pair.3))
            where
              alike : family (own_of (solution t c) x) ≡ 2
              alike = own-family c x ∙ fam-root c (own_node x) (range_node p) (sym pair.0) ∙ fam-known c (range_node p) (omega arith) ∙ number

          integer-range : T (not (flag t.high p)) → T (leq_datatype (range_of E p) integer)
          integer-range n =
              let r = range_greatest t in
              datatype-trans (range_of E p) (range_of (solution t r) p) integer (range-leq-at r (range-allowed t) p pair.2 pair.1)
              (leq-within (range_of (solution t r) p) integer (range-family r p ∙ fam-known r (range_node p) (omega arith) ∙ number)
              (λ d i. else-not-decimal r p n d))

          go : T (flag t.low x) ⊎ T (not (flag t.low x)) → T (flag t.high p) ⊎ T (not (flag t.high p)) → T (flag t.low x || flag t.high p)
          go (inl m) n = or_left (flag t.low x) (flag t.high p) m
          go (inr m) (inl n) = or_right (flag t.low x) (flag t.high p) n
          go (inr m) (inr n) =
              absurd (not-between (range_of E p) (datatype-trans decimal (own_of E x) (range_of E p) (decimal-own m) (h.edges p x l k)) (integer-range n))
