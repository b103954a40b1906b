-- Well typed expressions, booleans and queries meet no fault, at every tuple of terms of the variables' types.
use Prim.Native.Nat.{ℕ}
use mathlib.Core.Path.{◌≡◌, refl}
use mathlib.Core.List.{List}
use mathlib.Core.Bool.{Bool, true, false, ◌&&◌, ◌||◌}
use mathlib.Core.Option.{Option, none, some}
use lib.Dec.{T, eqb_refl}
use lib.ListN.{length, get_elem?}
use lib.IntN.{ℤ, ◌+ℤ◌, ◌-ℤ◌}
use Rattle.definitions.specs.Types.{Datatype, Ty, plain, range, same_datatype, same_type, leq_datatype, leq, some_datatype}
use Rattle.definitions.specs.Terms.{Term, Schema, Sort, has, sort_of, has_type, datatype_in}
use Rattle.definitions.specs.Tree.{Name, var, const, Expr, Cond, Query}
use Rattle.definitions.specs.Scope.{in_name, in_expr, in_cond, in_query}
use Rattle.definitions.specs.Typing.{allows, name_has, expr_has, cond_typed, property_typed, query_typed}
use Rattle.definitions.specs.Outcome.{ok, ◌>>=◌, graph_no_uri, subject_no_uri, object_not_of_datatype}
use Rattle.definitions.specs.declared.Truth.{Truth}
use Rattle.definitions.specs.Values.{Value, value_of, Number, whole, millionths, number_in, combine, distance, sum, difference, absolute, Pair, paired, string_in, equal_pair, less_pair}
use Rattle.definitions.specs.Evaluate.{Setting, Bindings, Quad, Named, named, term_of_number, is_uri, in_schema, property_datatype, expression, condition, query}
use Rattle.definitions.specs.Search.{Typing}
use Rattle.definitions.specs.Calls.{constants_of}
use Rattle.laws.proofs.Tests.{and_left, and_right, implies, apply}
use Rattle.laws.proofs.Order.{by_datatype3, leq-trans, leq-refl, same-datatype, same-type}
use Rattle.laws.specs.Sorts.{least}
use Rattle.laws.proofs.Sorts.{has-of-least, least-of-has, has_above, is-uri}
use Rattle.laws.specs.Outcomes.{Fine, fine, Any}
use Rattle.laws.proofs.NoFault.{fine-then, fine-and, fine-demand}
use Rattle.laws.specs.Bindings.{Extends, Holds, WellBound, BoundIn}
use Rattle.laws.proofs.Bindings.{there-is, constant-sort, in_left, in_right}
use Rattle.laws.specs.Sound.{NameBounded, ExprBounded, CondBounded, QueryBounded}

-- ── one of the five datatypes ───────────────────────────────────────────────────────────────

either : {A : Type 0} (a b : Bool) → (T a → A) → (T b → A) → T (a || b) → A
either true b f g h = f tt
either false b f g h = g h

pub some-datatype : (p : Datatype → Bool) → T (some_datatype p) → (d : Datatype) × T (p d)
some-datatype p h =
    let u = p Datatype.any_uri in
    let s = p Datatype.string in
    let c = p Datatype.decimal in
    let t = p Datatype.date_time in
    either (u || s || c || t) (p Datatype.integer)
    (either (u || s || c) t (either (u || s) c (either u s (λ k. (Datatype.any_uri, k)) (λ k. (Datatype.string, k))) (λ k. (Datatype.decimal, k)))
    (λ k. (Datatype.date_time, k))) (λ k. (Datatype.integer, k)) h

same_above : (d e : Datatype) → T (same_datatype d e) → T (leq_datatype e d)
same_above d e h = rw (same-datatype d e h) (leq-refl (plain e))

same-below : (τ σ : Ty) → T (same_type τ σ) → T (leq τ σ)
same-below τ σ h = rw (same-type τ σ h) (leq-refl σ)

-- ── values ──────────────────────────────────────────────────────────────────────────────────

abbrev kind : Value → Datatype
kind (Value.uri u) = Datatype.any_uri
kind (Value.string s) = Datatype.string
kind (Value.integer n) = Datatype.integer
kind (Value.decimal n) = Datatype.decimal
kind (Value.date_time n) = Datatype.date_time

-- a value's kind is below a datatype or equal to it
abbrev HasKind : Datatype → Value → Type 0
HasKind d v = T (leq_datatype (kind v) d)

abbrev number_kind : Number → Datatype
number_kind (whole n) = Datatype.integer
number_kind (millionths n) = Datatype.decimal

module _ (d : Datatype) (is_number : T (leq_datatype d Datatype.decimal)) where
  numeric : (e : Datatype) → T (leq_datatype e d) → T (leq_datatype e Datatype.decimal)
  numeric e h = leq-trans (plain e) (plain d) (plain Datatype.decimal) h is_number

  number-fine : (v : Value) → HasKind d v → Fine (λ n. T (leq_datatype (number_kind n) d)) (number_in v)
  unfolding number_in
  number-fine (Value.uri u) h = absurd (numeric Datatype.any_uri h)
  number-fine (Value.string s) h = absurd (numeric Datatype.string h)
  number-fine (Value.integer n) h = fine h
  number-fine (Value.decimal n) h = fine h
  number-fine (Value.date_time n) h = absurd (numeric Datatype.date_time h)

  combine-kind : (f : ℤ → ℤ → ℤ) (m n : Number) → T (leq_datatype (number_kind m) d) → T (leq_datatype (number_kind n) d) → HasKind d (combine f m n)
  combine-kind f (whole a) (whole b) h k = h
  combine-kind f (whole a) (millionths b) h k = k
  combine-kind f (millionths a) (whole b) h k = h
  combine-kind f (millionths a) (millionths b) h k = h

  distance-kind : (n : Number) → T (leq_datatype (number_kind n) d) → HasKind d (distance n)
  distance-kind (whole a) h = h
  distance-kind (millionths a) h = h

  sum-fine : (a b : Value) → HasKind d a → HasKind d b → Fine (HasKind d) (sum a b)
  unfolding sum
  sum-fine a b h k = fine-then (number-fine a h) λ m p. fine-then (number-fine b k) λ n q. fine (combine-kind ◌+ℤ◌ m n p q)

  difference-fine : (a b : Value) → HasKind d a → HasKind d b → Fine (HasKind d) (difference a b)
  unfolding difference
  difference-fine a b h k = fine-then (number-fine a h) λ m p. fine-then (number-fine b k) λ n q. fine (combine-kind ◌-ℤ◌ m n p q)

  absolute-fine : (a : Value) → HasKind d a → Fine (HasKind d) (absolute a)
  unfolding absolute
  absolute-fine a h = fine-then (number-fine a h) λ n p. fine (distance-kind n p)

string-fine : (v : Value) → HasKind Datatype.string v → Fine Any (string_in v)
unfolding string_in
string-fine (Value.uri u) h = absurd h
string-fine (Value.string s) h = fine tt
string-fine (Value.integer n) h = absurd h
string-fine (Value.decimal n) h = absurd h
string-fine (Value.date_time n) h = absurd h

-- two datatypes below one: the same, or integer and decimal
abbrev common : Datatype → Datatype → Bool
common a b = leq_datatype a b || leq_datatype b a

below_one : (a b d : Datatype) → T (leq_datatype a d) → T (leq_datatype b d) → T (common a b)
below_one a b d h k =
    let test : Datatype → Datatype → Datatype → Bool = λ a b d. implies (leq_datatype a d) (implies (leq_datatype b d) (common a b)) in
    apply (leq_datatype b d) (common a b) (apply (leq_datatype a d) (implies (leq_datatype b d) (common a b)) (by_datatype3 test tt a b d) h) k

common-fine : (a b : Value) → T (common (kind a) (kind b)) → Fine Any (paired a b)
unfolding paired
common-fine (Value.uri a) (Value.uri b) h = fine tt
common-fine (Value.uri a) (Value.string b) h = absurd h
common-fine (Value.uri a) (Value.integer b) h = absurd h
common-fine (Value.uri a) (Value.decimal b) h = absurd h
common-fine (Value.uri a) (Value.date_time b) h = absurd h
common-fine (Value.string a) (Value.uri b) h = absurd h
common-fine (Value.string a) (Value.string b) h = fine tt
common-fine (Value.string a) (Value.integer b) h = absurd h
common-fine (Value.string a) (Value.decimal b) h = absurd h
common-fine (Value.string a) (Value.date_time b) h = absurd h
common-fine (Value.integer a) (Value.uri b) h = absurd h
common-fine (Value.integer a) (Value.string b) h = absurd h
common-fine (Value.integer a) (Value.integer b) h = fine tt
common-fine (Value.integer a) (Value.decimal b) h = fine tt
common-fine (Value.integer a) (Value.date_time b) h = absurd h
common-fine (Value.decimal a) (Value.uri b) h = absurd h
common-fine (Value.decimal a) (Value.string b) h = absurd h
common-fine (Value.decimal a) (Value.integer b) h = fine tt
common-fine (Value.decimal a) (Value.decimal b) h = fine tt
common-fine (Value.decimal a) (Value.date_time b) h = absurd h
common-fine (Value.date_time a) (Value.uri b) h = absurd h
common-fine (Value.date_time a) (Value.string b) h = absurd h
common-fine (Value.date_time a) (Value.integer b) h = absurd h
common-fine (Value.date_time a) (Value.decimal b) h = absurd h
common-fine (Value.date_time a) (Value.date_time b) h = fine tt

paired-fine : (d : Datatype) (a b : Value) → HasKind d a → HasKind d b → Fine Any (paired a b)
paired-fine d a b h k = common-fine a b (below_one (kind a) (kind b) d h k)

-- ── terms ───────────────────────────────────────────────────────────────────────────────────

uri-kind : (o : Option Datatype) (d : Datatype) → T (leq (least (Sort.uri o)) (plain d)) → T (leq_datatype Datatype.any_uri d)
unfolding least
uri-kind none d h = h
uri-kind (some e) d h = same_above d Datatype.any_uri h

-- a term of a datatype gives a value of that datatype
value-kind : (S : Schema) (t : Term) (d : Datatype) → T (has_type S t (plain d)) → HasKind d (value_of t)
unfolding value_of sort_of
value-kind S (Term.uri u) d h = uri-kind (datatype_in S u) d (least-of-has (Sort.uri (datatype_in S u)) (plain d) h)
value-kind S (Term.string g t) d h = h
value-kind S (Term.integer n) d h = h
value-kind S (Term.decimal n) d h = h
value-kind S (Term.date_time n) d h = h

schema-fine : (o : Option Datatype) (d : Datatype) → T (leq (least (Sort.uri o)) (range d)) → Fine (λ e. T (leq_datatype d e)) (in_schema o)
unfolding least
schema-fine none d h = absurd h
schema-fine (some e) d h = fine h

-- a term of type range(d) is a schema URI, and what has d has its datatype
property-fine : (S : Schema) (t : Term) (d : Datatype) → T (has_type S t (range d)) → Fine (λ e. T (leq_datatype d e)) (property_datatype S t)
unfolding property_datatype sort_of
property-fine S (Term.uri u) d h = schema-fine (datatype_in S u) d (least-of-has (Sort.uri (datatype_in S u)) (range d) h)
property-fine S (Term.string g t) d h = absurd h
property-fine S (Term.integer n) d h = absurd h
property-fine S (Term.decimal n) d h = absurd h
property-fine S (Term.date_time n) d h = absurd h

-- both rules for a property: it has type range(d), and the object has d
module _ (constants : ℕ → Sort) (Γ : Typing) where
  property-names : (p o : Name) → T (property_typed constants Γ p o) → (d : Datatype) × T (name_has constants Γ p (range d)) × T (name_has constants Γ o (plain d))
  unfolding property_typed name_has least
  property-names (var v) o h =
      let r = some-datatype (λ d. same_type (Γ v) (range d) && name_has constants Γ o (plain d)) h in
      let exactly = same_type (Γ v) (range r.0) in
      let object = name_has constants Γ o (plain r.0) in
      (r.0, same-below (Γ v) (range r.0) (and_left exactly object r.1), and_right exactly object r.1)
  property-names (const c) o h = go (constants c) h
    where
      go : (σ : Sort) → T (allows σ (λ d. name_has constants Γ o (plain d))) → (d : Datatype) × T (has σ (range d)) × T (name_has constants Γ o (plain d))
      go (Sort.uri none) k = absurd k
      go (Sort.uri (some d)) k = (d, has-of-least (Sort.uri (some d)) (range d) (leq-refl (range d)), k)
      go (Sort.literal d) k = absurd k

-- ── names, expressions, booleans, queries ───────────────────────────────────────────────────

-- what a name gives
pub record Given (S : Schema) (terms : List Term) (τ : Ty) (n : Named) : Type 0 where
  pub there : get_elem? terms n.number ≡ some n.term
  pub typed : T (has_type S n.term τ)

given : (S : Schema) (terms : List Term) (τ : Ty) (o : Option ℕ) (i : ℕ) → o ≡ some i → Holds S terms i τ → Fine (Given S terms τ) (term_of_number terms o)
given S terms τ o i e h = rw (e, h.there) (fine (record { there = h.there; typed = h.typed }))

-- over the terms that loading numbers, those of the moment, and bindings of the variables' types
module _ (σ : Setting) (Γ : Typing) (loaded terms : List Term) (extends : Extends loaded terms)
    (quads : List Quad) (β : Bindings) (well_bound : WellBound σ.schema Γ terms β) where
  abbrev constants : ℕ → Sort
  constants = constants_of σ.schema loaded

  pub named-fine : (n : Name) (τ : Ty) → NameBounded (length loaded) n → BoundIn β (λ v. in_name v n) → T (name_has constants Γ n τ)
      → Fine (Given σ.schema terms τ) (named terms β n)
  unfolding named in_name name_has
  named-fine (var v) τ k i h =
      let b = i v (eqb_refl v) in
      let x = well_bound v b.number b.is in
      given σ.schema terms τ (β v) b.number b.is (record { term = x.term; there = x.there; typed = has_above (sort_of σ.schema x.term) (Γ v) τ x.typed h })
  named-fine (const c) τ k i h =
      let t = there-is loaded c k in
      given σ.schema terms τ (some c) c refl (record { term = t.0; there = extends c t.0 t.1; typed = rw (constant-sort σ.schema loaded c t.0 t.1) at h })

  expression-fine : (e : Expr) (d : Datatype) → ExprBounded (length loaded) e → BoundIn β (λ v. in_expr v e) → T (expr_has constants Γ e d)
      → Fine (HasKind d) (expression σ terms quads β e)
  unfolding expression in_expr expr_has
  expression-fine (Expr.name n) d k i h = fine-then (named-fine n (plain d) k i h) λ t p. fine (value-kind σ.schema t.term d p.typed)
  expression-fine Expr.now d k i h = fine (same_above d Datatype.date_time h)
  expression-fine (Expr.str e) d k i h =
      let is_string = same_datatype d Datatype.string in
      let r = some-datatype (λ any. expr_has constants Γ e any) (and_right is_string (some_datatype (λ any. expr_has constants Γ e any)) h) in
      fine-then (expression-fine e r.0 k i r.1) λ a p.
      fine (same_above d Datatype.string (and_left is_string (some_datatype (λ any. expr_has constants Γ e any)) h))
  expression-fine (Expr.abs e) d k i h =
      let is_number = leq_datatype d Datatype.decimal in
      let has₁ = expr_has constants Γ e d in
      fine-then (expression-fine e d k i (and_right is_number has₁ h)) λ a p. absolute-fine d (and_left is_number has₁ h) a p
  expression-fine (Expr.plus e f) d k i h =
      let is_number = leq_datatype d Datatype.decimal in
      let has₁ = expr_has constants Γ e d in
      let has₂ = expr_has constants Γ f d in
      let both = and_right is_number (has₁ && has₂) h in
      fine-then (expression-fine e d k.0 (in_left β (λ v. in_expr v e) (λ v. in_expr v f) i) (and_left has₁ has₂ both)) λ a p.
      fine-then (expression-fine f d k.1 (in_right β (λ v. in_expr v e) (λ v. in_expr v f) i) (and_right has₁ has₂ both)) λ b q.
      sum-fine d (and_left is_number (has₁ && has₂) h) a b p q
  expression-fine (Expr.minus e f) d k i h =
      let is_number = leq_datatype d Datatype.decimal in
      let has₁ = expr_has constants Γ e d in
      let has₂ = expr_has constants Γ f d in
      let both = and_right is_number (has₁ && has₂) h in
      fine-then (expression-fine e d k.0 (in_left β (λ v. in_expr v e) (λ v. in_expr v f) i) (and_left has₁ has₂ both)) λ a p.
      fine-then (expression-fine f d k.1 (in_right β (λ v. in_expr v e) (λ v. in_expr v f) i) (and_right has₁ has₂ both)) λ b q.
      difference-fine d (and_left is_number (has₁ && has₂) h) a b p q

  -- two expressions with a common datatype
  compared-fine : (e f : Expr) → ExprBounded (length loaded) e → ExprBounded (length loaded) f → BoundIn β (λ v. in_expr v e || in_expr v f)
      → T (some_datatype (λ d. expr_has constants Γ e d && expr_has constants Γ f d)) → (test : Pair → Truth)
      → Fine Any (expression σ terms quads β e >>= λ a. expression σ terms quads β f >>= λ b. paired a b >>= λ p. ok (test p))
  compared-fine e f k₁ k₂ i h test =
      let r = some-datatype (λ d. expr_has constants Γ e d && expr_has constants Γ f d) h in
      let has₁ = expr_has constants Γ e r.0 in
      let has₂ = expr_has constants Γ f r.0 in
      fine-then (expression-fine e r.0 k₁ (in_left β (λ v. in_expr v e) (λ v. in_expr v f) i) (and_left has₁ has₂ r.1)) λ a p.
      fine-then (expression-fine f r.0 k₂ (in_right β (λ v. in_expr v e) (λ v. in_expr v f) i) (and_right has₁ has₂ r.1)) λ b q.
      fine-then (paired-fine r.0 a b p q) λ x y. fine tt

  pub condition-fine : (c : Cond) → CondBounded (length loaded) c → BoundIn β (λ v. in_cond v c) → T (cond_typed constants Γ c)
      → Fine Any (condition σ terms quads β c)
  unfolding condition in_cond cond_typed
  condition-fine Cond.no k i h = fine tt
  condition-fine Cond.yes k i h = fine tt
  condition-fine (Cond.or c d) k i h =
      let typed₁ = cond_typed constants Γ c in
      let typed₂ = cond_typed constants Γ d in
      fine-then (condition-fine c k.0 (in_left β (λ v. in_cond v c) (λ v. in_cond v d) i) (and_left typed₁ typed₂ h)) λ a p.
      fine-then (condition-fine d k.1 (in_right β (λ v. in_cond v c) (λ v. in_cond v d) i) (and_right typed₁ typed₂ h)) λ b q. fine tt
  condition-fine (Cond.and c d) k i h =
      let typed₁ = cond_typed constants Γ c in
      let typed₂ = cond_typed constants Γ d in
      fine-then (condition-fine c k.0 (in_left β (λ v. in_cond v c) (λ v. in_cond v d) i) (and_left typed₁ typed₂ h)) λ a p.
      fine-then (condition-fine d k.1 (in_right β (λ v. in_cond v c) (λ v. in_cond v d) i) (and_right typed₁ typed₂ h)) λ b q. fine tt
  condition-fine (Cond.not c) k i h = fine-then (condition-fine c k i h) λ a p. fine tt
  condition-fine (Cond.regex r e) k i h =
      fine-then (expression-fine e Datatype.string k i h) λ a p. fine-then (string-fine a p) λ s q. fine tt
  condition-fine (Cond.lang_matches r e) k i h =
      fine-then (expression-fine e Datatype.string k i h) λ a p. fine-then (string-fine a p) λ s q. fine tt
  condition-fine (Cond.equal e f) k i h = compared-fine e f k.0 k.1 i h equal_pair
  condition-fine (Cond.less e f) k i h = compared-fine e f k.0 k.1 i h (less_pair σ.ranks)

  pub query-fine : (q : Query) → QueryBounded (length loaded) q → BoundIn β (λ v. in_query v q) → T (query_typed constants Γ q)
      → Fine Any (query σ terms quads β q)
  unfolding query in_query query_typed
  query-fine (Query.pattern g s p o) k i h =
      let any = plain Datatype.any_uri in
      let has_g = name_has constants Γ g any in
      let has_s = name_has constants Γ s any in
      let has_p = property_typed constants Γ p o in
      let h₁ = and_right has_g (has_s && has_p) h in
      let r = property-names constants Γ p o (and_right has_s has_p h₁) in
      let i₀ = in_left β (λ v. in_name v g) (λ v. in_name v s || (in_name v p || in_name v o)) i in
      let i₁ = in_right β (λ v. in_name v g) (λ v. in_name v s || (in_name v p || in_name v o)) i in
      let i₂ = in_right β (λ v. in_name v s) (λ v. in_name v p || in_name v o) i₁ in
      fine-then (named-fine g any k.0 i₀ (and_left has_g (has_s && has_p) h)) λ G h_g.
      fine-then (named-fine s any k.1 (in_left β (λ v. in_name v s) (λ v. in_name v p || in_name v o) i₁) (and_left has_s has_p h₁)) λ X h_x.
      fine-then (named-fine p (range r.0) k.2 (in_left β (λ v. in_name v p) (λ v. in_name v o) i₂) r.1) λ P h_p.
      fine-then (named-fine o (plain r.0) k.3 (in_right β (λ v. in_name v p) (λ v. in_name v o) i₂) r.2) λ O h_o.
      fine-and (fine-demand (is_uri G.term) graph_no_uri (is-uri σ.schema G.term h_g.typed))
      (fine-and (fine-demand (is_uri X.term) subject_no_uri (is-uri σ.schema X.term h_x.typed))
      (fine-then (property-fine σ.schema P.term r.0 h_p.typed) λ d hd.
      fine-and (fine-demand (has_type σ.schema O.term (plain d)) object_not_of_datatype (has_above (sort_of σ.schema O.term) (plain r.0) (plain d) h_o.typed hd))
      (fine tt)))
  query-fine (Query.both q r) k i h =
      let typed₁ = query_typed constants Γ q in
      let typed₂ = query_typed constants Γ r in
      fine-then (query-fine q k.0 (in_left β (λ v. in_query v q) (λ v. in_query v r) i) (and_left typed₁ typed₂ h)) λ a p.
      fine-then (query-fine r k.1 (in_right β (λ v. in_query v q) (λ v. in_query v r) i) (and_right typed₁ typed₂ h)) λ b p'. fine tt
  query-fine (Query.union q r) k i h =
      let typed₁ = query_typed constants Γ q in
      let typed₂ = query_typed constants Γ r in
      fine-then (query-fine q k.0 (in_left β (λ v. in_query v q) (λ v. in_query v r) i) (and_left typed₁ typed₂ h)) λ a p.
      fine-then (query-fine r k.1 (in_right β (λ v. in_query v q) (λ v. in_query v r) i) (and_right typed₁ typed₂ h)) λ b p'. fine tt
  query-fine (Query.filter c) k i h = fine-then (condition-fine c k i h) λ a p. fine tt
  query-fine Query.empty k i h = fine tt
