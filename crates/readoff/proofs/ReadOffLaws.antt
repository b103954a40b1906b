-- Reading the verdict off the tables, as the code does it.
use Rattle.std.specs.Prelude.{Ok, Err}
use Rattle.definitions.specs.declared.Refusal.TheVariants.{NoTyping, NoGreatest}
use Prim.Native.Nat.{ℕ, zero, suc, ◌+◌, ◌≤◌, ◌<◌}
use native.Mathlib.Decide.{ℕ_discrete}
use native.Mathlib.Numerals.{add-one}
use native.Mathlib.Omega.{arith}
use mathlib.Core.Path.{◌≡◌, refl, sym, ap, ap₂, ◌∙◌, subst}
use mathlib.Core.Bool.{Bool, true, false, cond, not, ◌&&◌, ◌||◌}
use mathlib.Core.List.{List, [], map}
use lib.Dec.{T, eqb, ltb}
use lib.ListN.{length, get_or, length-map}
use lib.Seq.{ext_get_or}
use borrow.Author.Tests.{ne_eqb}
use Rattle.definitions.specs.Limits.{variable_limit}
use Rattle.definitions.specs.Types.{Datatype, any_uri, string, decimal, date_time, integer, Ty, datatype_code, type_code}
use Rattle.definitions.specs.Scope.{variables}
use Rattle.definitions.specs.Typing.{Written, unbound, undecided, fixed, is_open, Verdict, no_typing, no_greatest, greatest}
use Rattle.definitions.specs.Calls.{reported_type, reported_types}
use Rattle.facts.specs.declared.noting.Tables.{Tables}
use Rattle.facts.specs.Tables.{family_limit, own_node, range_node, edge_at}
use Rattle.laws.specs.Lists.{flag}
use Rattle.facts.specs.Infer.{all_below, chosen, of_family, root, apart, settled, tight, decided, best, best_types, read_off}
use Rattle.codes.specs.TypeCodes.{datatype_of, type_of}
use Rattle.facts.specs.Codes.{unbound_code, written_as, all_written}
use Rattle.facts.specs.Answers.{answer_of, reported_at, reported_all}
use Rattle.facts.proofs.Infer.{below-says, type-of}
use Rattle.facts.proofs.WalkLaws.{written-here}
use Rattle.laws.proofs.Check.{reported-length}
use Rattle.laws.proofs.Reported.{reported-at}

-- ── every number below a limit ──────────────────────────────────────────────────────────────

module _ (f : ℕ → Bool) where
  pub below_none : all_below 0 f ≡ true
  unfolding all_below
  below_none = refl

  pub below_more : (x : ℕ) {b : Bool} → all_below x f ≡ true → b ≡ f x → b ≡ true → all_below (x + 1) f ≡ true
  unfolding all_below
  below_more x h eb e = rw (add-one x) (ap₂ ◌&&◌ h (sym eb ∙ e))

  pub below_fails : (x n : ℕ) {b : Bool} → x < n → b ≡ f x → b ≡ false → false ≡ all_below n f
  below_fails x n l eb e = sym (go (all_below n f) (below-says n f).0)
    where
      go : (c : Bool) → (T c → (x : ℕ) → x < n → T (f x)) → c ≡ false
      go true h = absurd (subst T (sym eb ∙ e) (h tt x l))
      go false h = refl

  pub below-done : (x n : ℕ) → x ≤ n → n ≤ x → all_below x f ≡ true → true ≡ all_below n f
  below-done x n l m h = sym (subst (λ y. all_below y f ≡ true) (let e : x ≡ n = omega arith in e) h)

-- ── the tests ───────────────────────────────────────────────────────────────────────────────

module _ (t : Tables) where
  pub apart-is : {a b c : ℕ} → a ≡ root t 1 → b ≡ root t 2 → c ≡ root t 3 → eqb a 1 && (eqb b 2 && eqb c 3) ≡ apart t
  unfolding apart
  apart-is ea eb ec = λ i. eqb (ea i) 1 && (eqb (eb i) 2 && eqb (ec i) 3)

  pub settled_is : (x : ℕ) {a b : ℕ} → a ≡ root t (own_node x) → b ≡ root t (range_node x)
      → ltb a family_limit && (not (flag t.property x) || ltb b family_limit) ≡ settled t x
  unfolding settled
  settled_is x ea eb = λ i. ltb (ea i) family_limit && (not (flag t.property x) || ltb (eb i) family_limit)

  pub tight-apart : (p x : ℕ) → flag t.edges (edge_at p x) ≡ false → true ≡ tight t p x
  unfolding tight
  tight-apart p x e = rw e refl

  pub tight-edge : (p x : ℕ) {a : ℕ} → flag t.edges (edge_at p x) ≡ true → a ≡ root t (range_node p)
      → not (eqb a 2) || (flag t.low x || flag t.high p) ≡ tight t p x
  unfolding tight
  tight-edge p x e ea = rw e (λ i. not (eqb (ea i) 2) || (flag t.low x || flag t.high p))

-- an open variable has the code 0
module _ (written : List ℕ) (x : ℕ) (per-variable : length written ≡ variable_limit) (l : x < variable_limit) where
  abbrev code : ℕ
  code = get_or written x 0

  abbrev here : Written
  here = get_or (all_written written) x unbound

  pub here-open : code ≡ 0 → here ≡ undecided
  unfolding written_as
  here-open e = written-here [] written x per-variable l ∙ ap written_as e

  here-unbound : code ≡ unbound_code → here ≡ unbound
  unfolding written_as
  here-unbound e = written-here [] written x per-variable l ∙ ap written_as e

  here-fixed : (code ≡ 0 → ⊥) → (code ≡ unbound_code → ⊥) → here ≡ fixed (type_of code)
  unfolding written_as
  here-fixed n m = written-here [] written x per-variable l ∙ rw (ne_eqb code 0 n, ne_eqb code unbound_code m) refl

  pub here-written : (code ≡ 0 → ⊥) → is_open here ≡ false
  here-written n = go (ℕ_discrete code unbound_code)
    where
      go : Dec (code ≡ unbound_code) → is_open here ≡ false
      go (yes e) = ap is_open (here-unbound e)
      go (no m) = ap is_open (here-fixed n m)

  pub closed-written : (s : Bool) → (code ≡ 0 → ⊥) → true ≡ not (is_open here) || s
  closed-written s n = rw (here-written n) refl

  pub closed-open : {r s : Bool} → code ≡ 0 → r ≡ s → r ≡ not (is_open here) || s
  closed-open e k = rw (here-open e) k

  -- the type that is reported
  module _ (t : Tables) where
    pub reported-open : {r : ℕ} → code ≡ 0 → r ≡ type_code (best t x) → r ≡ reported_at t (all_written written) x
    unfolding reported_at
    reported-open e k = rw (here-open e) k

    pub reported-unbound : code ≡ unbound_code → 0 ≡ reported_at t (all_written written) x
    unfolding reported_at
    reported-unbound e = rw (here-unbound e) refl

    pub reported-fixed : {r : ℕ} → (code ≡ 0 → ⊥) → (code ≡ unbound_code → ⊥) → r ≡ type_code (type_of code) → r ≡ reported_at t (all_written written) x
    unfolding reported_at
    reported-fixed n m k = rw (here-fixed n m) k

-- ── the greatest types ──────────────────────────────────────────────────────────────────────

pub datatype-small : (d : Datatype) → datatype_code d < 8
datatype-small any_uri = omega arith
datatype-small string = omega arith
datatype-small decimal = omega arith
datatype-small date_time = omega arith
datatype-small integer = omega arith

module _ (f : ℕ) (k : ℕ) (h : datatype_code (datatype_of k) ≡ k) where
  pub numbers-family : f ≡ 2 → (k ≡ datatype_code (of_family f (datatype_of k))) × (k < 8)
  numbers-family e = (rw e (sym h), omega (arith, datatype-small (datatype_of k)))

  pub last-family : (f ≡ 0 → ⊥) → (f ≡ 1 → ⊥) → (f ≡ 2 → ⊥) → (4 ≡ datatype_code (of_family f (datatype_of k))) × (4 < 8)
  last-family a b c = (sym (ap datatype_code (go f a b c)), omega arith)
    where
      go : (f : ℕ) → (f ≡ 0 → ⊥) → (f ≡ 1 → ⊥) → (f ≡ 2 → ⊥) → of_family f (datatype_of k) ≡ date_time
      go zero a b c = absurd (a refl)
      go (suc zero) a b c = absurd (b refl)
      go (suc (suc zero)) a b c = absurd (c refl)
      go (suc (suc (suc n))) a b c = refl

module _ (t : Tables) (x : ℕ) {b : Bool} {f : ℕ} (d : Datatype) {r : ℕ} where
  pub best-range : flag t.property x ≡ true → flag t.high x ≡ b → cond b decimal integer ≡ d → f ≡ root t (range_node x)
      → r ≡ datatype_code (of_family f d) → 8 + r ≡ type_code (best t x)
  unfolding best
  best-range ep eb ed ef er = rw (ep, eb, ed, ← ef) (ap (λ n. 8 + n) er)

  pub best-plain : flag t.property x ≡ false → flag t.low x ≡ b → cond b integer decimal ≡ d → f ≡ root t (own_node x)
      → r ≡ datatype_code (of_family f d) → r ≡ type_code (best t x)
  unfolding best
  best-plain ep eb ed ef er = rw (ep, eb, ed, ← ef) er

-- ── all the variables ───────────────────────────────────────────────────────────────────────

pub filled-all : (t : Tables) (ws : List Written) (l : List ℕ) → length ws ≡ variable_limit → length l ≡ variable_limit
    → ((k : ℕ) → k < variable_limit → get_or l k 0 ≡ reported_at t ws k) → l ≡ reported_all t ws
unfolding reported_all reported_at best_types
filled-all t ws l n m h =
    ext_get_or 0 l (reported_types ws Γ) (m ∙ sym (reported-length ws Γ (sym n) ∙ n))
    (λ k s. h k (omega arith)
    ∙ ap (reported_type (get_or ws k unbound)) (sym (type-of f k (omega arith)))
    ∙ sym (reported-at ws Γ k (sym n) (omega arith)))
  where
    f : ℕ → Ty
    f x = chosen (get_or ws x unbound) (best t x)

    Γ : List Ty
    Γ = map f variables

pub written-length : (written : List ℕ) → length written ≡ variable_limit → length (all_written written) ≡ variable_limit
unfolding all_written
written-length written e = length-map written written_as ∙ e

-- ── the answer ──────────────────────────────────────────────────────────────────────────────

module _ (t : Tables) (ws : List Written) where
  abbrev closed_all : Bool
  closed_all = all_below variable_limit (λ x. not (is_open (get_or ws x unbound)) || settled t x)

  abbrev tight_all : Bool
  tight_all = all_below variable_limit (λ p. all_below variable_limit (tight t p))

  -- by the two tests
  abbrev verdict_by : (is_apart is_decided : Bool) → Verdict
  verdict_by a d = elim a as (λ c. Verdict) [
    | true ↦ elim d as (λ c. Verdict) [ true ↦ greatest (best_types t ws) | false ↦ no_greatest ]
    | false ↦ no_typing
  ]

  off-by : {a d : Bool} → apart t ≡ a → decided t ws ≡ d → answer_of ws (verdict_by a d) ≡ answer_of ws (read_off t ws)
  unfolding read_off
  off-by ea ed = λ i. answer_of ws (verdict_by (sym ea i) (sym ed i))

  pub off-joined : {b : Bool} → b ≡ apart t → b ≡ false → Err NoTyping ≡ answer_of ws (read_off t ws)
  unfolding answer_of
  off-joined eb e = off-by (sym eb ∙ e) refl

  module _ {b : Bool} (eb : b ≡ apart t) (e : b ≡ true) where
    pub off-open : {c : Bool} → c ≡ closed_all → c ≡ false → Err NoGreatest ≡ answer_of ws (read_off t ws)
    unfolding decided answer_of
    off-open ec h = off-by (sym eb ∙ e) (ap (λ z. z && tight_all) (sym ec ∙ h))

    module _ {c : Bool} (ec : c ≡ closed_all) (h : c ≡ true) {d : Bool} (ed : d ≡ tight_all) where
      pub off-loose : d ≡ false → Err NoGreatest ≡ answer_of ws (read_off t ws)
      unfolding decided answer_of
      off-loose k = off-by (sym eb ∙ e) (ap₂ ◌&&◌ (sym ec ∙ h) (sym ed ∙ k))

      pub off-types : d ≡ true → {l : List ℕ} → l ≡ reported_all t ws → Ok l ≡ answer_of ws (read_off t ws)
      unfolding decided answer_of reported_all
      off-types k s = ap Ok s ∙ off-by (sym eb ∙ e) (ap₂ ◌&&◌ (sym ec ∙ h) (sym ed ∙ k))
