-- What the walk over the script's bytes notes: names, and what each kind of record adds to what its children noted.
use Prim.Native.Nat.{ℕ, ◌+◌, ◌-◌, ◌≤◌, ◌<◌}
use native.Mathlib.Decide.{ℕ_discrete}
use native.Mathlib.Omega.{arith}
use mathlib.Core.Path.{◌≡◌, refl, sym, ap, ◌∙◌, subst}
use mathlib.Core.Logic.{◌⊎◌, ⊎_elim}
use mathlib.Core.List.{List, [], ◌∷◌, ◌++◌}
use mathlib.Core.Bool.{Bool, true, false, cond}
use mathlib.Core.Option.{some}
use lib.ListN.{length, get_or, get_or-map}
use borrow.Author.Tests.{ne_eqb}
use Rattle.definitions.specs.Limits.{variable_limit}
use Rattle.definitions.specs.Bytes.{Got, byte}
use Rattle.definitions.specs.Types.{Datatype, any_uri, string, decimal, date_time, integer, Ty, plain, range, leq_datatype, same_datatype}
use Rattle.definitions.specs.Tree.{Name, var, const, Expr, Cond, Query, Script}
use Rattle.definitions.specs.Reading.{read_expr, read_cond, read_query}
use Rattle.definitions.specs.Typing.{Written, unbound, undecided, fixed}
use Rattle.laws.proofs.Lists.{get_d-inside}
use Rattle.laws.specs.Sorts.{least}
use Rattle.laws.proofs.Reading.{cond-gap}
use Rattle.laws.specs.Walks.{Loads, Walked}
use Rattle.laws.proofs.Walking.{not_none}
use Rattle.laws.proofs.Productions.{Two, ExprAt, CondAt, QueryAt}
use Rattle.laws.proofs.Records.{Passed, cond_pos}
use Rattle.codes.specs.Family.{family, own_datatype}
use Rattle.facts.specs.declared.Place as Codes
use Rattle.facts.specs.declared.Place.TheVariants.{Variable, Known}
use Rattle.facts.specs.declared.noting.Tables.{Tables}
use Rattle.facts.specs.Demands.{Node, Demand, same, property, is_uri, expr_node, is_number, is_string, expr_demands, cond_demands, query_demands, script_demands}
use Rattle.facts.specs.Tables.{family_limit, node_limit, own_node, range_node, merged, with_low, with_high, when, at_most, as_property, at_least, edge, impossible, related, known}
use Rattle.facts.specs.Tables.{written_place, place_node, place, node_at, noted, all_noted}
use Rattle.codes.specs.TypeCodes.{datatype_of, type_of}
use Rattle.facts.specs.Codes.{sort_above, sorts_in, unbound_code, written_as, all_written, place_of, PlaceIn}
use Rattle.facts.specs.Walk.{Joined, PlacedAs, Noted, ExprNoted, CondNoted, QueryNoted, ScriptNoted}
use Rattle.facts.proofs.Family.{family-below}
use Rattle.facts.proofs.NotingLaws.{all-noted-append}
use Rattle.facts.proofs.UnionFind.{merge-forest}
use Rattle.facts.proofs.TableLaws.{family-small, merged-joined, property-joined}

-- ── names ───────────────────────────────────────────────────────────────────────────────────

module _ (leasts written : List ℕ) where
  module _ (x : ℕ) (per-variable : length written ≡ variable_limit) (l : x < variable_limit) where
    pub written-here : get_or (all_written written) x unbound ≡ written_as (get_or written x 0)
    unfolding all_written written_as
    written-here = get_or-map written_as written x unbound_code ∙ ap written_as (get_d-inside written x unbound_code 0 (omega arith))

    placed : (w : Written) → written_as (get_or written x 0) ≡ w → written_place x w ≡ place (sorts_in leasts) (all_written written) (var x)
    unfolding place
    placed w e = sym (ap (written_place x) (written-here ∙ e))

    pub open-placed : get_or written x 0 ≡ 0 → PlacedAs leasts written (Variable x) (var x)
    unfolding written_as
    open-placed e = record { here = placed undecided (rw e refl); inside = l }

    pub unbound-placed : get_or written x 0 ≡ unbound_code → PlacedAs leasts written (Known 1) (var x)
    unfolding written_as type_of datatype_of
    unbound-placed e = record { here = placed unbound (rw e refl); inside = tt }

    pub fixed-placed : (get_or written x 0 ≡ 0 → ⊥) → (get_or written x 0 ≡ unbound_code → ⊥) → PlacedAs leasts written (Known (get_or written x 0)) (var x)
    unfolding written_as
    fixed-placed n m = record {
      here = placed (fixed (type_of (get_or written x 0))) (rw (ne_eqb (get_or written x 0) 0 n, ne_eqb (get_or written x 0) unbound_code m) refl);
      inside = tt;
    }

  least_above : (τ : Ty) → least (sort_above τ) ≡ τ
  unfolding least
  least_above (plain any_uri) = refl
  least_above (plain string) = refl
  least_above (plain decimal) = refl
  least_above (plain date_time) = refl
  least_above (plain integer) = refl
  least_above (range d) = refl

  pub constant-placed : (n m : ℕ) → m ≡ n → n < length leasts → PlacedAs leasts written (Known (get_or leasts m 0)) (const n)
  unfolding place sorts_in
  constant-placed n m e l = record {
    here = ap known (ap (λ i. type_of (get_or leasts i 0)) e ∙ ap type_of (get_d-inside leasts n 0 1 l) ∙ sym (least_above (type_of (get_or leasts n 1))));
    inside = tt;
  }

-- ── nodes ───────────────────────────────────────────────────────────────────────────────────

module _ {q : Codes.Place} where
  pub variable-node : {x : ℕ} → q ≡ Variable x → PlaceIn q → (family_limit + x ≡ place_node (place_of q)) × (family_limit + x < node_limit)
  variable-node {x} e h = let l : x < variable_limit = rw e at h in (rw e refl, omega arith)

  pub known-node : {k f : ℕ} (d : ℕ) → q ≡ Known k → datatype_of d ≡ own_datatype (type_of k) → f ≡ family (datatype_of d)
      → (f ≡ place_node (place_of q)) × (f < node_limit)
  known-node d e ed ef = (rw e (ef ∙ ap family ed), family-small d ef)

-- ── some demands after others ───────────────────────────────────────────────────────────────

module _ (leasts written : List ℕ) where
  abbrev after : List Demand → Tables → Tables
  after ds t = all_noted (sorts_in leasts) (all_written written) ds t

  abbrev node : Node → ℕ
  node a = node_at (sorts_in leasts) (all_written written) a

  pub nothing-noted : {t : Tables} → Joined t → Noted leasts written t t []
  unfolding all_noted
  nothing-noted h = record { tables = refl; joined = h }

  pub then-noted : {t u v : Tables} {cs ds : List Demand} → Noted leasts written t u cs → Noted leasts written u v ds → Noted leasts written t v (cs ++ ds)
  then-noted {t} {cs = cs} {ds} h k = record {
    tables = k.tables ∙ ap (after ds) h.tables ∙ sym (all-noted-append (sorts_in leasts) (all_written written) cs ds t);
    joined = k.joined;
  }

  -- two nodes are merged
  pub same_noted : (t : Tables) {u : Tables} (a b : Node) (m n : ℕ) → Joined t → m ≡ node a → m < node_limit → n ≡ node b → n < node_limit → u ≡ merged m n t
      → Noted leasts written t u (same a b ∷ [])
  unfolding all_noted noted
  same_noted t a b m n h em lm en ln e = record {
    tables = e ∙ (λ i. merged (em i) (en i) t);
    joined = merged-joined m n t h lm ln e;
  }

-- ── records of two kinds that demand the same ───────────────────────────────────────────────

-- a sum or a difference
pub record SumOf (e f z : Expr) : Type 0 where
  pub demands : expr_demands z ≡ expr_demands e ++ (expr_demands f ++ (is_number e ∷ is_number f ∷ []))
  pub node : expr_node z ≡ Node.fixed decimal

-- a comparison
abbrev pub CompareOf : Expr → Expr → Cond → Type 0
CompareOf e f z = cond_demands z ≡ expr_demands e ++ (expr_demands f ++ (same (expr_node e) (expr_node f) ∷ []))

-- or, and
abbrev pub BothOf : Cond → Cond → Cond → Type 0
BothOf c d z = cond_demands z ≡ cond_demands c ++ cond_demands d

-- both, union
abbrev pub EitherOf : Query → Query → Query → Type 0
EitherOf q r z = query_demands z ≡ query_demands q ++ query_demands r

-- a record with two children, of a kind among several
pub record TwoAs {A B : Type 0} (P : A → A → B → Type 0) (t left : ℕ) (child : ℕ → Got A) (at : ℕ) (g : Got B) : Type 1 where
  pub make : A → A → B
  pub parts : Two t left make child child at g
  pub means : (a b : A) → P a b (make a b)

module _ {t : ℕ} {s : List ℕ} {terms left at : ℕ} where
  pub sum-read : ExprAt t s terms left at → 0x41 ≤ byte s at → Passed (byte s at) (0x41 ∷ 0x42 ∷ 0x43 ∷ [])
      → TwoAs SumOf t left (read_expr s terms (left - 1)) (at + 1) (read_expr s terms left at)
  unfolding expr_demands expr_node
  sum-read x h n = go (ℕ_discrete (byte s at) 0x44)
    where
      go : Dec (byte s at ≡ 0x44) → TwoAs SumOf t left (read_expr s terms (left - 1)) (at + 1) (read_expr s terms left at)
      go (yes k) = record { make = Expr.plus; parts = x.plus k; means = λ a b. record { demands = refl; node = refl } }
      go (no m) = record { make = Expr.minus; parts = x.minus_last h (n, m); means = λ a b. record { demands = refl; node = refl } }

  pub compare-read : CondAt t s terms left at → 0x55 ≤ byte s at → Passed (byte s at) (0x55 ∷ 0x56 ∷ [])
      → TwoAs CompareOf t left (read_expr s terms (left - 1)) (at + 1) (read_cond s terms left at)
  unfolding cond_demands
  compare-read x h n = go (ℕ_discrete (byte s at) 0x57)
    where
      no-boolean : (byte s at ≡ 0x57 → ⊥) → Passed (byte s at) (0x50 ∷ 0x51 ∷ 0x52 ∷ 0x53 ∷ 0x54 ∷ 0x55 ∷ 0x56 ∷ 0x57 ∷ [])
      no-boolean m =
          ((((((((tt, (λ e. omega arith)), (λ e. omega arith)), (λ e. omega arith)), (λ e. omega arith)), (λ e. omega arith)), n.0.1), n.1), m)

      go : Dec (byte s at ≡ 0x57) → TwoAs CompareOf t left (read_expr s terms (left - 1)) (at + 1) (read_cond s terms left at)
      go (yes k) = record { make = Cond.equal; parts = x.equal k; means = λ a b. refl }
      go (no m) = record { make = Cond.less; parts = x.less (no-boolean m); means = λ a b. refl }

  -- false and true demand nothing
  pub leaf-read : CondAt t s terms left at → 0x50 ≤ byte s at → byte s at < 0x52 → (c : Cond) × (read_cond s terms left at ≡ some (c, at + 1)) × (cond_demands c ≡ [])
  unfolding cond_demands
  leaf-read x from to = go (ℕ_discrete (byte s at) 0x50)
    where
      go : Dec (byte s at ≡ 0x50) → (c : Cond) × (read_cond s terms left at ≡ some (c, at + 1)) × (cond_demands c ≡ [])
      go (yes k) = (Cond.no, x.no k, refl)
      go (no m) = (Cond.yes, x.yes (omega (arith, m)), refl)

  pub both_read : CondAt t s terms left at → 0x52 ≤ byte s at → byte s at < 0x54
      → TwoAs BothOf t left (read_cond s terms (left - 1)) (at + 1) (read_cond s terms left at)
  unfolding cond_demands
  both_read x from to = go (ℕ_discrete (byte s at) 0x52)
    where
      go : Dec (byte s at ≡ 0x52) → TwoAs BothOf t left (read_cond s terms (left - 1)) (at + 1) (read_cond s terms left at)
      go (yes k) = record { make = Cond.or; parts = x.or k; means = λ a b. refl }
      go (no m) = record { make = Cond.and; parts = x.and (omega (arith, m)); means = λ a b. refl }

  pub either-read : QueryAt t s terms left at → 0x62 ≤ byte s at → byte s at < 0x64
      → TwoAs EitherOf t left (read_query s terms (left - 1)) (at + 1) (read_query s terms left at)
  unfolding query_demands
  either-read x from to = go (ℕ_discrete (byte s at) 0x62)
    where
      go : Dec (byte s at ≡ 0x62) → TwoAs EitherOf t left (read_query s terms (left - 1)) (at + 1) (read_query s terms left at)
      go (yes k) = record { make = Query.both; parts = x.both k; means = λ a b. refl }
      go (no m) = record { make = Query.union; parts = x.union (omega (arith, m)); means = λ a b. refl }

  -- the last kind of a query
  pub empty-read : QueryAt t s terms left at → Passed (byte s at) (0x61 ∷ 0x64 ∷ []) → (byte s at < 0x62) ⊎ (0x64 ≤ byte s at)
      → read_query s terms left at ≡ some (Query.empty, at + 1)
  empty-read x n h = x.empty ((((tt, n.0.1), outside 0x62 (omega arith) (omega arith)), outside 0x63 (omega arith) (omega arith)), n.1)
    where
      outside : (k : ℕ) → 0x62 ≤ k → k < 0x64 → byte s at ≡ k → ⊥
      outside k from to e = ⊎_elim (λ w. omega arith) (λ w. omega arith) h

-- no boolean has a lower kind
pub no_lower : (s : List ℕ) (terms left at : ℕ) → Loads (read_cond s terms left at) → byte s at < 0x50 → ⊥
no_lower s terms left at l h = not_none l (cond-gap s terms left at (cond_pos s terms left at l) 0 0x50 (omega arith) h tt)

-- ── expressions ─────────────────────────────────────────────────────────────────────────────

module _ (leasts written : List ℕ) where
  -- an expression is of a datatype's family
  module _ (d : Datatype) {t u v : Tables} {m : ℕ} (e : Expr) where
    pub of-family : ExprNoted leasts written t u m e → (w : Tables) → Joined w → v ≡ merged m (family d) w
        → Noted leasts written w v (same (expr_node e) (Node.fixed d) ∷ [])
    unfolding node_at
    of-family h w j k = same_noted leasts written w (expr_node e) (Node.fixed d) m (family d) j h.node h.small refl (omega (arith, family-below d)) k

  pub name-noted : {t : Tables} {q : Codes.Place} {m : ℕ} (n : Name) → Joined t → PlacedAs leasts written q n
      → (m ≡ place_node (place_of q)) × (m < node_limit) → ExprNoted leasts written t t m (Expr.name n)
  unfolding expr_demands expr_node node_at
  name-noted n j h k = record { noted = nothing-noted leasts written j; node = k.0 ∙ ap place_node h.here; small = k.1 }

  pub now-noted : {t : Tables} → Joined t → ExprNoted leasts written t t 3 Expr.now
  unfolding expr_demands expr_node node_at
  now-noted j = record { noted = nothing-noted leasts written j; node = refl; small = omega arith }

  pub str-noted : {t u : Tables} {m : ℕ} (e : Expr) → ExprNoted leasts written t u m e → ExprNoted leasts written t u 1 (Expr.str e)
  unfolding expr_demands expr_node node_at
  str-noted e h = record { noted = h.noted; node = refl; small = omega arith }

  pub abs-noted : {t u v : Tables} {m : ℕ} (e : Expr) → ExprNoted leasts written t u m e → v ≡ merged m 2 u → ExprNoted leasts written t v 2 (Expr.abs e)
  unfolding expr_demands expr_node node_at
  abs-noted {u = u} e h k = record {
    noted = then-noted leasts written h.noted (of-family decimal e h u h.noted.joined k);
    node = refl;
    small = omega arith;
  }

  -- both sides of a sum or a difference are numbers
  module _ {t u v x y : Tables} {m n : ℕ} (e f : Expr) (h : ExprNoted leasts written t u m e) (k : ExprNoted leasts written u v n f)
      (ex : x ≡ merged m 2 v) (ey : y ≡ merged n 2 x) where
    numbers : Noted leasts written t y (expr_demands e ++ (expr_demands f ++ (is_number e ∷ is_number f ∷ [])))
    numbers =
        let first = of-family decimal e h v k.noted.joined ex in
        let second = of-family decimal f k x first.joined ey in
        then-noted leasts written h.noted (then-noted leasts written k.noted (then-noted leasts written first second))

    pub sum-noted : {z : Expr} → SumOf e f z → ExprNoted leasts written t y 2 z
    unfolding node_at
    sum-noted s = record {
      noted = subst (Noted leasts written t y) (sym s.demands) numbers;
      node = sym (ap (node leasts written) s.node);
      small = omega arith;
    }

-- ── booleans ────────────────────────────────────────────────────────────────────────────────

module _ (leasts written : List ℕ) where
  pub string-noted : {t u v : Tables} {m : ℕ} (e : Expr) → ExprNoted leasts written t u m e → v ≡ merged m 1 u
      → Noted leasts written t v (expr_demands e ++ (is_string e ∷ []))
  string-noted {u = u} e h k = then-noted leasts written h.noted (of-family leasts written string e h u h.noted.joined k)

  pub alike-noted : {t u v x : Tables} {m n : ℕ} (e f : Expr) (z : Cond) → CompareOf e f z → ExprNoted leasts written t u m e → ExprNoted leasts written u v n f
      → x ≡ merged m n v → CondNoted leasts written t x z
  alike-noted {t} {v = v} {x} {m} {n} e f z c h k ex =
      subst (Noted leasts written t x) (sym c)
      (then-noted leasts written h.noted (then-noted leasts written k.noted
      (same_noted leasts written v (expr_node e) (expr_node f) m n k.noted.joined h.node h.small k.node k.small ex)))

  pub both-noted : {t u v : Tables} (c d z : Cond) → BothOf c d z → CondNoted leasts written t u c → CondNoted leasts written u v d → CondNoted leasts written t v z
  both-noted {t} {v = v} c d z e h k = subst (Noted leasts written t v) (sym e) (then-noted leasts written h k)

  pub leaf-noted : {t : Tables} (c : Cond) → cond_demands c ≡ [] → Joined t → CondNoted leasts written t t c
  leaf-noted {t} c e j = subst (Noted leasts written t t) (sym e) (nothing-noted leasts written j)

-- ── patterns ────────────────────────────────────────────────────────────────────────────────

-- what stands in a place as a property or as its object keeps the union-find together
module _ (t : Tables) (h : Joined t) where
  pub when-joined : (b : Bool) (f : Tables → Tables) (u : Tables) → Joined u → Joined (f u) → Joined (when b f u)
  when-joined true f u j k = k
  when-joined false f u j k = j

  property-joins : (p : ℕ) → p < variable_limit → Joined (as_property p t)
  property-joins p l = property-joined p t h l refl

  pub at-most-joins : (x : ℕ) (d : Datatype) → x < variable_limit → Joined (at_most x d t)
  unfolding at_most
  at-most-joins x d l =
      let j = merge-forest h {a = own_node x} {b = family d} (omega arith) (omega (arith, family-below d)) in
      when-joined (same_datatype d integer) (with_low x) (merged (own_node x) (family d) t) j j

  pub at-least-joins : (p : ℕ) (d : Datatype) → p < variable_limit → Joined (at_least p d t)
  unfolding at_least
  at-least-joins p d l =
      let j = merge-forest (property-joins p l) {a = range_node p} {b = family d} (omega arith) (omega (arith, family-below d)) in
      when-joined (same_datatype d decimal) (with_high p) (merged (range_node p) (family d) (as_property p t)) j j

  edge-joins : (p x : ℕ) → p < variable_limit → x < variable_limit → Joined (edge p x t)
  unfolding edge
  edge-joins p x lp lx = merge-forest (property-joins p lp) {a = range_node p} {b = own_node x} (omega arith) (omega arith)

  pub impossible-joins : Joined (impossible t)
  unfolding impossible
  impossible-joins = merge-forest h {a = 0} {b = 1} (omega arith) (omega arith)

  related-joins : (p o : Codes.Place) → PlaceIn p → PlaceIn o → Joined (related (place_of p) (place_of o) t)
  unfolding related
  related-joins (Variable p) (Variable x) lp lx = edge-joins p x lp lx
  related-joins (Variable p) (Known k) lp lx = at-least-joins p (own_datatype (type_of k)) lp
  related-joins (Known k) o lp lo = go (type_of k) o lo
    where
      go : (τ : Ty) (o : Codes.Place) → PlaceIn o → Joined (related (known τ) (place_of o) t)
      go (plain d) (Variable x) l = impossible-joins
      go (plain d) (Known j) l = impossible-joins
      go (range d) (Variable x) l = at-most-joins x d l
      go (range d) (Known j) l = fits (leq_datatype (own_datatype (type_of j)) d)
        where
          fits : (b : Bool) → Joined (cond b t (impossible t))
          fits true = h
          fits false = impossible-joins

module _ (leasts written : List ℕ) where
  -- a name has to be a URI
  pub uri-noted : (t : Tables) {u : Tables} {q : Codes.Place} {m : ℕ} (n : Name) → Joined t → PlacedAs leasts written q n
      → (m ≡ place_node (place_of q)) × (m < node_limit) → u ≡ merged m 0 t → Noted leasts written t u (is_uri n ∷ [])
  unfolding node_at
  uri-noted t {m = m} n j h k e = same_noted leasts written t (Node.name n) (Node.fixed any_uri) m 0 j (k.0 ∙ ap place_node h.here) k.1 refl (omega arith) e

  pub related-noted : (t : Tables) {u : Tables} {q r : Codes.Place} (p o : Name) → Joined t → PlacedAs leasts written q p → PlacedAs leasts written r o
      → u ≡ related (place_of q) (place_of r) t → Noted leasts written t u (property p o ∷ [])
  unfolding all_noted noted
  related-noted t {q = q} {r} p o j hp ho e = record {
    tables = e ∙ (λ i. related (hp.here i) (ho.here i) t);
    joined = subst Joined (sym e) (related-joins t j q r hp.inside ho.inside);
  }

  -- graph and subject are URIs, property and object are related
  pub pattern-noted : {t u v w : Tables} {a b q r : Codes.Place} {m n : ℕ} (g s p o : Name) → Joined t
      → PlacedAs leasts written a g → (m ≡ place_node (place_of a)) × (m < node_limit) → u ≡ merged m 0 t
      → PlacedAs leasts written b s → (n ≡ place_node (place_of b)) × (n < node_limit) → v ≡ merged n 0 u
      → PlacedAs leasts written q p → PlacedAs leasts written r o → w ≡ related (place_of q) (place_of r) v
      → QueryNoted leasts written t w (Query.pattern g s p o)
  unfolding query_demands
  pattern-noted {t} {u} {v} g s p o j hg kg eu hs ks ev hp ho ew =
      let first = uri-noted t g j hg kg eu in
      let second = uri-noted u s first.joined hs ks ev in
      then-noted leasts written first (then-noted leasts written second (related-noted v p o second.joined hp ho ew))

-- ── queries and scripts ─────────────────────────────────────────────────────────────────────

module _ (leasts written : List ℕ) where
  pub either-noted : {t u v : Tables} (q r z : Query) → EitherOf q r z → QueryNoted leasts written t u q → QueryNoted leasts written u v r → QueryNoted leasts written t v z
  either-noted {t} {v = v} q r z e h k = subst (Noted leasts written t v) (sym e) (then-noted leasts written h k)

  pub from-noted : {t u v : Tables} {q : Codes.Place} {m : ℕ} (at : ℕ) (n : Name) (c : Script) → Joined t → PlacedAs leasts written q n
      → (m ≡ place_node (place_of q)) × (m < node_limit) → u ≡ merged m 0 t → ScriptNoted leasts written u v c → ScriptNoted leasts written t v (Script.from_named at n c)
  unfolding script_demands
  from-noted {t} at n c j h k e x = then-noted leasts written (uri-noted leasts written t n j h k e) x

-- the same reading
pub loads-as : {A : Type 0} {g o : Got A} → g ≡ o → Loads g → Loads o
loads-as e l = (l.0, l.1, sym e ∙ l.2)

pub walked_as : {A : Type 0} {P : A → Type 0} {g o : Got A} {n : ℕ} → g ≡ o → Walked P o n → Walked P g n
walked_as e x = record { tree = x.tree; read = e ∙ x.read; holds = x.holds }

-- ── what a call has left ────────────────────────────────────────────────────────────────────

module _ (leasts written : List ℕ) where
  pub placed-in : {q : Codes.Place} {o : Got Name} {n : ℕ} → Walked (PlacedAs leasts written q) o n → PlaceIn q
  placed-in x = x.holds.inside

  module _ (t : Tables) {u : Tables} {m : ℕ} {o : Got Expr} {n : ℕ} (x : Walked (ExprNoted leasts written t u m) o n) where
    pub expr-joined : Joined u
    expr-joined = x.holds.noted.joined

    pub expr-small : m < node_limit
    expr-small = x.holds.small

  pub tree-joined : {A : Type 0} (t : Tables) {u : Tables} (demands : A → List Demand) {o : Got A} {n : ℕ} → Walked (λ a. Noted leasts written t u (demands a)) o n
      → Joined u
  tree-joined t demands x = x.holds.joined

-- merged with the numbers
pub merged-again : (t : Tables) (m : ℕ) {u : Tables} → Joined t → m < node_limit → u ≡ merged m 2 t → Joined u
merged-again t m h l e = merged-joined m 2 t h l (omega arith) e
