-- The verdict with a type written at an open variable is read off the tables with that type noted.
use mathlib.Core.Path.{◌≡◌, refl, ap, sym, ◌∙◌, subst}
use mathlib.Core.Logic.{◌⊎◌, inl, inr, ⊎_elim}
use Prim.Native.Nat.{ℕ, ◌-◌, ◌<◌}
use native.Mathlib.Decide.{ℕ_discrete}
use native.Mathlib.Omega.{arith}
use mathlib.Core.List.{List}
use mathlib.Core.Bool.{Bool, cond, ◌&&◌, ◌||◌}
use lib.Dec.{T, eqb, ltb, not_T}
use lib.ListN.{get_or, length, set, length-set}
use lib.Seq.{get_or-set_same, get_or-set_other}
use borrow.Author.Tests.{eq-eqb, ne_eqb}
use Rattle.definitions.specs.Limits.{variable_limit}
use Rattle.definitions.specs.Types.{Datatype, decimal, integer, Ty, plain, range, leq_datatype, leq, same_datatype}
use Rattle.definitions.specs.Terms.{Sort}
use Rattle.definitions.specs.Tree.{Script}
use Rattle.definitions.specs.Typing.{Written, unbound, fixed, type_at, verdict}
use Rattle.laws.specs.Lists.{flag}
use Rattle.laws.specs.Typings.{Allowed, Fits, IsTyping}
use Rattle.laws.proofs.Tests.{and_left, and_right, and_make, or_cases, or_left, or_right, not_both}
use Rattle.laws.proofs.Order.{leq-refl}
use Rattle.laws.proofs.Typings.{fits-length, fits-at, fits-of, verdict-is}
use Rattle.codes.specs.Family.{family, own_datatype}
use Rattle.facts.specs.declared.noting.Tables.{Tables}
use Rattle.facts.specs.Tables.{family_limit, range_nodes, edge_at}
use Rattle.facts.specs.Infer.{root, read_off, tables_of}
use Rattle.facts.proofs.Family.{is_range, range_or, datatype-trans, leq-family, not-between, is-decimal, is-integer, leq-within, own-leq, range-leq}
use Rattle.facts.proofs.Tables.{Flagged, Environment, own_of, range_of, value, Low, High, Property, Edge, Satisfies, Open, Sound, Adds}
use Rattle.facts.proofs.Infer.{of_typing, typing_of, typing-open, StandFor, read-off-says, script-sound, typing-satisfies, satisfied-typing}
use Rattle.with_type.specs.WithType.{leaves, with_type}
use Rattle.with_type.proofs.TypeNoted.{Forced, with-type-adds}

-- ── types that are so noted: a variable that has the type ───────────────────────────────────

module _ (t : Tables) (x : ℕ) (i : x < variable_limit) (E : Environment) (h : Satisfies E t) where
  pub has-type : (τ : Ty) → E.type x ≡ τ → T (leaves t x τ) × (T (leq (E.type x) τ) × Forced t x τ E)
  unfolding leaves
  has-type (plain d) e = (not_T (property || (low && same_datatype d decimal)) left, (subst (λ τ. T (leq (E.type x) τ)) e (leq-refl (E.type x)), forced))
    where
      property : Bool
      property = flag t.property x

      low : Bool
      low = flag t.low x

      lows : T low → T (leq_datatype d integer)
      lows k = subst (λ τ. T (leq_datatype (own_datatype τ) integer)) e (h.lows x k)

      left : T (property || (low && same_datatype d decimal)) → ⊥
      left k =
          ⊎_elim (λ p. subst (λ τ. T (is_range τ)) e (h.properties x p))
          (λ q. not-between d (is-decimal d (and_right low (same_datatype d decimal) q)) (lows (and_left low (same_datatype d decimal) q)))
          (or_cases property (low && same_datatype d decimal) k)

      forced : Forced t x (plain d) E
      forced k p l f =
          datatype-trans decimal d (range_of E p) (is-decimal d k) (subst (λ τ. T (leq_datatype (own_datatype τ) (range_of E p))) e (h.edges p x i f))
  has-type (range d) e = (not_T (high && same_datatype d integer) left, (subst (λ τ. T (leq (E.type x) τ)) e (leq-refl (E.type x)), forced))
    where
      high : Bool
      high = flag t.high x

      range-is : range_of E x ≡ d
      range-is = ap (range_or (E.spare x)) e

      left : T (high && same_datatype d integer) → ⊥
      left k =
          not-between d (subst (λ a. T (leq_datatype decimal a)) range-is (h.highs x (and_left high (same_datatype d integer) k)))
          (is-integer d (and_right high (same_datatype d integer) k))

      forced : Forced t x (range d) E
      forced k y l f =
          datatype-trans (own_of E y) d integer (subst (λ a. T (leq_datatype (own_of E y) a)) range-is (h.edges x y l f)) (is-integer d k)

-- ── and back: the type put in the place of one below it ─────────────────────────────────────

module _ (E : Environment) (x : ℕ) (τ : Ty) where
  -- what a variable has to spare is its range as it was
  abbrev pub changed : Environment
  changed = record { type = λ y. cond (eqb y x) τ (E.type y); spare = range_of E }

  pub changed-here : changed.type x ≡ τ
  changed-here = rw (eq-eqb x x refl)

  pub changed-else : (y : ℕ) → (y ≡ x → ⊥) → changed.type y ≡ E.type y
  changed-else y n = rw (ne_eqb y x n)

  -- at the variable, and at any other
  pub everywhere : (P : ℕ → Type 0) → P x → ((y : ℕ) → (y ≡ x → ⊥) → P y) → (y : ℕ) → P y
  everywhere P here else y = go (ℕ_discrete y x)
    where
      go : Dec (y ≡ x) → P y
      go (yes e) = subst P (sym e) here
      go (no n) = else y n

  own-here : own_of changed x ≡ own_datatype τ
  own-here = ap own_datatype changed-here

  own-else : (y : ℕ) → (y ≡ x → ⊥) → own_of changed y ≡ own_of E y
  own-else y n = ap own_datatype (changed-else y n)

  range-here : range_of changed x ≡ range_or (range_of E x) τ
  range-here = ap (range_or (range_of E x)) changed-here

  range-else : (y : ℕ) → (y ≡ x → ⊥) → range_of changed y ≡ range_of E y
  range-else y n = ap (range_or (range_of E y)) (changed-else y n) ∙ again (E.type y) (E.spare y)
    where
      again : (σ : Ty) (d : Datatype) → range_or (range_or d σ) σ ≡ range_or d σ
      again (plain e) d = refl
      again (range e) d = refl

  module _ (below : T (leq (E.type x) τ)) where
    own-family : (y : ℕ) → family (own_of changed y) ≡ family (own_of E y)
    own-family =
        everywhere (λ y. family (own_of changed y) ≡ family (own_of E y))
        (ap family own-here ∙ sym (leq-family (own_of E x) (own_datatype τ) (own-leq (E.type x) τ below)))
        (λ y n. ap family (own-else y n))

    range-family : (y : ℕ) → family (range_of changed y) ≡ family (range_of E y)
    range-family =
        everywhere (λ y. family (range_of changed y) ≡ family (range_of E y))
        (ap family range-here ∙ same τ below)
        (λ y n. ap family (range-else y n))
      where
        same : (σ : Ty) → T (leq (E.type x) σ) → family (range_or (range_of E x) σ) ≡ family (range_of E x)
        same (plain d) k = refl
        same (range d) k = leq-family d (range_of E x) (range-leq (E.type x) (range d) (E.spare x) d tt k)

    value-changed : (n : ℕ) → value changed n ≡ value E n
    unfolding value
    value-changed n = λ j. cond (ltb n family_limit) n (cond (ltb n range_nodes) (own-family (n - family_limit) j) (range-family (n - range_nodes) j))

    module _ {ws : List Written} (t : Tables) (s : Sound ws t) (h : Satisfies E t) (left : T (leaves t x τ)) (forced : Forced t x τ E) where
      property-left : (σ : Ty) → T (leaves t x σ) → T (flag t.property x) → T (is_range σ)
      unfolding leaves
      property-left (plain d) l k =
          let others = flag t.low x && same_datatype d decimal in
          absurd (not_both (flag t.property x || others) (or_left (flag t.property x) others k) l)
      property-left (range d) l k = tt

      low-left : (σ : Ty) → T (leaves t x σ) → T (flag t.low x) → T (same_datatype (own_datatype σ) decimal) → ⊥
      unfolding leaves
      low-left (plain d) l k e =
          let both = flag t.low x && same_datatype d decimal in
          not_both (flag t.property x || both) (or_right (flag t.property x) both (and_make (flag t.low x) (same_datatype d decimal) k e)) l
      low-left (range d) l k e = e

      high-left : (σ : Ty) (d : Datatype) → T (leaves t x σ) → T (is_range σ) → T (flag t.high x) → T (same_datatype (range_or d σ) integer) → ⊥
      unfolding leaves
      high-left (plain e) d l r k q = r
      high-left (range e) d l r k q =
          not_both (flag t.high x && same_datatype e integer) (and_make (flag t.high x) (same_datatype e integer) k q) l

      lows : Flagged t.low (Low changed)
      lows =
          everywhere (λ y. T (flag t.low y) → Low changed y)
          (λ k. leq-within (own_of changed x) integer (own-family x ∙ leq-family (own_of E x) integer (h.lows x k))
          (λ d q. low-left τ left k (subst (λ a. T (same_datatype a decimal)) own-here d)))
          (λ y n k. subst (λ a. T (leq_datatype a integer)) (sym (own-else y n)) (h.lows y k))

      properties : Flagged t.property (Property changed)
      properties =
          everywhere (λ y. T (flag t.property y) → Property changed y)
          (λ k. subst (λ σ. T (is_range σ)) (sym changed-here) (property-left τ left k))
          (λ y n k. subst (λ σ. T (is_range σ)) (sym (changed-else y n)) (h.properties y k))

      highs : Flagged t.high (High changed)
      highs =
          everywhere (λ y. T (flag t.high y) → High changed y)
          (λ k. leq-within decimal (range_of changed x) (leq-family decimal (range_of E x) (h.highs x k) ∙ sym (range-family x))
          (λ d q. high-left τ (range_of E x) left (property-left τ left (s.coherent.highs x k).1) k (subst (λ a. T (same_datatype a integer)) range-here q)))
          (λ y n k. subst (λ a. T (leq_datatype decimal a)) (sym (range-else y n)) (h.highs y k))

      module _ (p y : ℕ) (l : y < variable_limit) (k : T (flag t.edges (edge_at p y))) where
        first : p < variable_limit
        first = (s.coherent.edges p y l k).2.0

        forced-high : (σ : Ty) → Forced t x σ E → T (same_datatype (own_datatype σ) decimal) → T (flag t.edges (edge_at p x)) → High E p
        forced-high (plain d) f e q = f e p first q
        forced-high (range d) f e q = absurd e

        -- the range of an object that is decimal now is decimal
        over : T (same_datatype (own_of changed y) decimal) → High E p
        over =
            everywhere (λ y. y < variable_limit → T (flag t.edges (edge_at p y)) → T (same_datatype (own_of changed y) decimal) → High E p)
            (λ l k d. forced-high τ forced (subst (λ a. T (same_datatype a decimal)) own-here d) k)
            (λ y n l k d. datatype-trans decimal (own_of E y) (range_of E p)
            (is-decimal (own_of E y) (subst (λ a. T (same_datatype a decimal)) (own-else y n) d)) (h.edges p y l k))
            y l k

        -- the range is as it was, or the variable's own, and then its object is no decimal
        no-decimal : (σ : Ty) → τ ≡ σ → Forced t x σ E → T (flag t.edges (edge_at x y)) → T (same_datatype (range_or (range_of E x) σ) integer)
            → (range_or (range_of E x) σ ≡ range_of E x) ⊎ (T (same_datatype (own_of changed y) decimal) → ⊥)
        no-decimal (plain d) e f q r = inl refl
        no-decimal (range d) e f q r =
            inr (everywhere (λ y. Low E y → T (same_datatype (own_of changed y) decimal) → ⊥)
            (λ w c. subst (λ a. T (same_datatype a decimal)) (own-here ∙ ap own_datatype e) c)
            (λ y n w c. not-between (own_of E y) (is-decimal (own_of E y) (subst (λ a. T (same_datatype a decimal)) (own-else y n) c)) w)
            y (f r y l q))

        under : T (same_datatype (range_of changed p) integer) → (range_of changed p ≡ range_of E p) ⊎ (T (same_datatype (own_of changed y) decimal) → ⊥)
        under =
            everywhere (λ p. T (flag t.edges (edge_at p y)) → T (same_datatype (range_of changed p) integer)
            → (range_of changed p ≡ range_of E p) ⊎ (T (same_datatype (own_of changed y) decimal) → ⊥))
            (λ q r. ⊎_elim (λ e. inl (range-here ∙ e)) inr (no-decimal τ refl forced q (subst (λ a. T (same_datatype a integer)) range-here r)))
            (λ p n q r. inl (range-else p n))
            p k

        edge : Edge changed p y
        edge =
            leq-within (own_of changed y) (range_of changed p)
            (own-family y ∙ leq-family (own_of E y) (range_of E p) (h.edges p y l k) ∙ sym (range-family p))
            (λ d q. ⊎_elim (λ e. not-between (range_of E p) (over d) (is-integer (range_of E p) (subst (λ a. T (same_datatype a integer)) e q))) (λ n. n d) (under q))

      pub changed-satisfies : Satisfies changed t
      changed-satisfies = record {
        families = λ n. value-changed (root t n) ∙ h.families n ∙ sym (value-changed n);
        lows = lows;
        highs = highs;
        properties = properties;
        edges = edge;
      }

-- ── typings of which a variable has the type ────────────────────────────────────────────────

module _ (ws : List Written) (x : ℕ) (o : Open ws x) (inside : x < length ws) (τ : Ty) (Γ : List Ty) where
  abbrev ws' : List Written
  ws' = set ws x (fixed τ)

  pub fixed-fits : Fits ws' Γ → Fits ws Γ × (type_at Γ x ≡ τ)
  fixed-fits f = (fits-of ws Γ (fits-length ws' Γ f ∙ length-set ws x (fixed τ)) (λ y l. go y (ℕ_discrete y x)), here)
    where
      here : type_at Γ x ≡ τ
      here = subst (λ w. Allowed w (type_at Γ x)) (get_or-set_same ws x (fixed τ) unbound inside) (fits-at ws' Γ f x)

      go : (y : ℕ) → Dec (y ≡ x) → Allowed (get_or ws y unbound) (type_at Γ y)
      go y (yes e) = subst (λ w. Allowed w (type_at Γ y)) (sym (ap (λ z. get_or ws z unbound) e ∙ o.1)) tt
      go y (no n) = subst (λ w. Allowed w (type_at Γ y)) (get_or-set_other ws x y (fixed τ) unbound n) (fits-at ws' Γ f y)

  pub fits-fixed : Fits ws Γ → type_at Γ x ≡ τ → Fits ws' Γ
  fits-fixed f e = fits-of ws' Γ (fits-length ws Γ f ∙ sym (length-set ws x (fixed τ))) (λ y l. go y (ℕ_discrete y x))
    where
      go : (y : ℕ) → Dec (y ≡ x) → Allowed (get_or ws' y unbound) (type_at Γ y)
      go y (yes q) = subst (λ z. Allowed (get_or ws' z unbound) (type_at Γ z)) (sym q) (subst (λ w. Allowed w (type_at Γ x)) (sym (get_or-set_same ws x (fixed τ) unbound inside)) e)
      go y (no n) = subst (λ w. Allowed w (type_at Γ y)) (sym (get_or-set_other ws x y (fixed τ) unbound n)) (fits-at ws Γ f y)

-- ── the theorem ─────────────────────────────────────────────────────────────────────────────

module _ (constants : ℕ → Sort) (ws : List Written) (per-variable : length ws ≡ variable_limit) (s : Script) (x : ℕ) (o : Open ws x) (τ : Ty) where
  abbrev t : Tables
  t = tables_of constants ws s

  sound : Sound ws t
  sound = script-sound constants ws per-variable s

  inside : x < length ws
  inside = omega (arith, o.0, per-variable)

  type-stands : StandFor ws (with_type x τ t) (IsTyping constants (set ws x (fixed τ)) s)
  type-stands = record {
    sound = adds.sound;
    fits = λ Γ h. (fixed-fits ws x o inside τ Γ h.0).0;
    satisfies = λ Γ h.
        let f = fixed-fits ws x o inside τ Γ h.0 in
        let k = typing-satisfies constants ws per-variable s Γ (f.0, h.1) in
        (adds.says (of_typing Γ)).1 (k, has-type t x o.0 (of_typing Γ) k τ f.1);
    over = over-type;
  }
    where
      adds : Adds ws t (with_type x τ t) (λ E. T (leaves t x τ) × (T (leq (E.type x) τ) × Forced t x τ E))
      adds = with-type-adds t sound x o.0 τ

      over-type : (E : Environment) → Satisfies E (with_type x τ t)
          → (Γ : List Ty) × IsTyping constants (set ws x (fixed τ)) s Γ × ((y : ℕ) → Open ws y → T (leq (E.type y) (type_at Γ y)))
      over-type E h =
          let k = (adds.says E).0 h in
          let C = changed E x τ in
          let Γ = typing_of ws per-variable C.type in
          let m = satisfied-typing constants ws per-variable s C (changed-satisfies E x τ k.1.1.0 t sound k.0 k.1.0 k.1.1.1) in
          let here = typing-open ws per-variable C.type in (
            Γ,
            (fits-fixed ws x o inside τ Γ m.0 (here x o ∙ changed-here E x τ), m.1),
            λ y p. subst (λ σ. T (leq (E.type y) σ)) (sym (here y p)) (above E k.1.1.0 y),
          )
        where
          above : (E : Environment) → T (leq (E.type x) τ) → (y : ℕ) → T (leq (E.type y) ((changed E x τ).type y))
          above E below =
              everywhere E x τ (λ y. T (leq (E.type y) ((changed E x τ).type y)))
              (subst (λ σ. T (leq (E.type x) σ)) (sym (changed-here E x τ)) below)
              (λ y n. subst (λ σ. T (leq (E.type y) σ)) (sym (changed-else E x τ y n)) (leq-refl (E.type y)))

  -- for all constants, written types, scripts, open variables and types
  pub type-is-verdict : read_off (with_type x τ t) ws ≡ verdict constants (set ws x (fixed τ)) s
  type-is-verdict =
      sym ((verdict-is constants (set ws x (fixed τ)) s (read_off (with_type x τ t) ws)).1
      (read-off-says ws per-variable (with_type x τ t) (IsTyping constants (set ws x (fixed τ)) s) type-stands))
