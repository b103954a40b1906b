-- Document 01, "The machine": one tuple tried. All parts are evaluated; the faults come first. Booleans as in document 02, Ask 5.
use Rattle.std.specs.Prelude.{ℕ, List, Bool, true, false, ◌&&◌, ◌||◌, eqb, ℤ}
use Rattle.std.proofs.Math.Option.{Option, none, some}
use Rattle.std.proofs.Math.ListN.{get_elem?}
use Rattle.definitions.specs.Lists.{some?}
use Rattle.definitions.specs.Types.{Datatype, plain}
use Rattle.definitions.specs.Terms.{Term, Schema, datatype_in, has_type}
use Rattle.definitions.specs.Text.{accepts, matches}
use Rattle.definitions.specs.Tree.{Name, var, const, Expr, Cond, Query}
use Rattle.definitions.specs.Outcome.{Outcome, ok, fault, ◌>>=◌, ◌>>◌, demand, graph_no_uri, subject_no_uri, property_not_in_schema, object_not_of_datatype, no_term}
use Rattle.definitions.specs.Values.{Value, value_of, sum, difference, absolute, text_of, paired, equal_pair, less_pair, string_in, truth_in}
use Rattle.definitions.specs.Truth.{not_truth, and_truth, or_truth, is_true}
use Rattle.definitions.specs.declared.Truth.{Truth}
use Rattle.definitions.specs.declared.Truth.TheVariants.{True, False}

-- four term numbers
pub record Quad : Type 0 where
  pub graph : ℕ
  pub subject : ℕ
  pub property : ℕ
  pub object : ℕ

abbrev pub same_quad : Quad → Quad → Bool
same_quad a b = eqb a.graph b.graph && (eqb a.subject b.subject && (eqb a.property b.property && eqb a.object b.object))

-- the quads that a step sees
unfoldable pub stored : Quad → List Quad → Bool
stored q quads = some? (same_quad q) quads

-- variables to term numbers, none where a variable is not bound
abbrev pub Bindings : Type 0
Bindings = ℕ → Option ℕ

-- a term with its number
pub record Named : Type 0 where
  pub number : ℕ
  pub term : Term

abbrev pub number_of : Bindings → Name → Option ℕ
number_of β (var v) = β v
number_of β (const c) = some c

abbrev pub with_term : ℕ → Option Term → Outcome Named
with_term i none = fault no_term
with_term i (some t) = ok (record { number = i; term = t })

abbrev pub term_of_number : List Term → Option ℕ → Outcome Named
term_of_number terms none = fault no_term
term_of_number terms (some i) = with_term i (get_elem? terms i)

unfoldable pub named : List Term → Bindings → Name → Outcome Named
named terms β n = term_of_number terms (number_of β n)

abbrev pub is_uri : Term → Bool
is_uri (Term.uri u) = true
is_uri (Term.string g t) = false
is_uri (Term.integer n) = false
is_uri (Term.decimal n) = false
is_uri (Term.date_time n) = false

-- a schema URI's datatype
abbrev pub in_schema : Option Datatype → Outcome Datatype
in_schema none = fault property_not_in_schema
in_schema (some d) = ok d

unfoldable pub property_datatype : Schema → Term → Outcome Datatype
property_datatype S (Term.uri u) = in_schema (datatype_in S u)
property_datatype S (Term.string g t) = fault property_not_in_schema
property_datatype S (Term.integer n) = fault property_not_in_schema
property_datatype S (Term.decimal n) = fault property_not_in_schema
property_datatype S (Term.date_time n) = fault property_not_in_schema

-- what a tuple is tried under: the schema, the ranks of the alphabet, and the value of now
pub record Setting : Type 0 where
  pub schema : Schema
  pub ranks : List ℕ
  pub clock : ℤ

-- over the terms by number, the quads and the bindings
module _ (σ : Setting) (terms : List Term) (quads : List Quad) (β : Bindings) where
  unfoldable pub expression : Expr → Outcome Value
  expression (Expr.name n) = do
    t ← named terms β n
    ok (value_of t.term)
  expression Expr.now = ok (Value.date_time σ.clock)
  expression (Expr.str e) = do
    a ← expression e
    ok (Value.string (text_of a))
  expression (Expr.abs e) = do
    a ← expression e
    absolute a
  expression (Expr.plus e f) = do
    a ← expression e
    b ← expression f
    sum a b
  expression (Expr.minus e f) = do
    a ← expression e
    b ← expression f
    difference a b

  unfoldable pub condition : Cond → Outcome Truth
  condition Cond.no = ok False
  condition Cond.yes = ok True
  condition (Cond.or c d) = do
    a ← condition c
    b ← condition d
    ok (or_truth a b)
  condition (Cond.and c d) = do
    a ← condition c
    b ← condition d
    ok (and_truth a b)
  condition (Cond.not c) = do
    a ← condition c
    ok (not_truth a)
  condition (Cond.regex p e) = do
    a ← expression e
    s ← string_in a
    ok (truth_in (λ x. accepts p x.text) s)
  condition (Cond.lang_matches r e) = do
    a ← expression e
    s ← string_in a
    ok (truth_in (λ x. matches r x.tag) s)
  condition (Cond.equal e f) = do
    a ← expression e
    b ← expression f
    p ← paired a b
    ok (equal_pair p)
  condition (Cond.less e f) = do
    a ← expression e
    b ← expression f
    p ← paired a b
    ok (less_pair σ.ranks p)

  -- pattern, quad stored; both, and; union, or; filter, its boolean true; empty, always
  unfoldable pub query : Query → Outcome Bool
  query (Query.pattern g s p o) = do
    G ← named terms β g
    X ← named terms β s
    P ← named terms β p
    O ← named terms β o
    demand (is_uri G.term) graph_no_uri
    demand (is_uri X.term) subject_no_uri
    d ← property_datatype σ.schema P.term
    demand (has_type σ.schema O.term (plain d)) object_not_of_datatype
    ok (stored (record { graph = G.number; subject = X.number; property = P.number; object = O.number }) quads)
  query (Query.both q r) = do
    a ← query q
    b ← query r
    ok (a && b)
  query (Query.union q r) = do
    a ← query q
    b ← query r
    ok (a || b)
  query (Query.filter c) = do
    a ← condition c
    ok (is_true a)
  query Query.empty = ok true
