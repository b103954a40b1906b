-- A script is well typed exactly where all its demands are met.
use mathlib.Core.Path.{◌≡◌, refl, ap, ap₂, sym, ◌∙◌}
use Prim.Native.Nat.{ℕ}
use mathlib.Core.List.{List, [], ◌∷◌, ◌++◌}
use mathlib.Core.Bool.{Bool, true, false, cond, ◌&&◌, and-true}
use mathlib.Core.Option.{none, some}
use lib.Dec.{T, eqb, eqb→eq}
use Rattle.definitions.specs.Lists.{every}
use Rattle.definitions.specs.Types.{Datatype, any_uri, string, decimal, date_time, Ty, plain, range, leq_datatype, same_datatype, same_type, some_datatype}
use Rattle.definitions.specs.Terms.{Sort}
use Rattle.definitions.specs.Tree.{Name, var, const, Expr, Cond, Query, Script, success, from_named, block, sequence}
use Rattle.definitions.specs.Typing.{allows, name_has, expr_has, cond_typed, property_typed, query_typed, script_typed}
use Rattle.laws.proofs.Tests.{by-test}
use Rattle.laws.proofs.Lists.{here, there, every-at, every_append, every-left, every-right}
use Rattle.laws.specs.Sorts.{least}
use Rattle.laws.proofs.Sorts.{has-least}
use Rattle.laws.proofs.TestEquations.{datatype-equal, datatype-equal2, datatype-equal3, type-equal2}
use Rattle.codes.specs.Family.{family, own_datatype}
use Rattle.facts.specs.Demands.{Node, Demand, same, property, is_uri, is_number, is_string, expr_node, expr_demands, cond_demands, query_demands, script_demands}
use Rattle.facts.proofs.Family.{is_property, leq-plain}

-- the greater of two numbers' datatypes
abbrev join : Datatype → Datatype → Datatype
join d e = cond (leq_datatype d e) e d

-- ── one record ──────────────────────────────────────────────────────────────────────────────

-- for all datatypes of the children; a and b tell whether the children are well typed, m and n whether they are of the family asked for

str-step : (a : Bool) (l d : Datatype) → (same_datatype d string && some_datatype (λ e. a && leq_datatype l e)) ≡ (a && leq_datatype string d)
str-step true l d = datatype-equal2 (λ l d. same_datatype d string && some_datatype (leq_datatype l)) (λ l d. leq_datatype string d) tt l d
str-step false l d = datatype-equal (λ d. same_datatype d string && false) (λ d. false) tt d

abs-step : (a m : Bool) (l d : Datatype) → (T a → eqb (family l) 2 ≡ m)
    → (leq_datatype d decimal && (a && leq_datatype l d)) ≡ ((a && (m && true)) && leq_datatype l d)
abs-step true m l d h =
    datatype-equal2 (λ l d. leq_datatype d decimal && leq_datatype l d) (λ l d. (eqb (family l) 2 && true) && leq_datatype l d) tt l d
    ∙ ap (λ m. (m && true) && leq_datatype l d) (h tt)
abs-step false m l d h = datatype-equal (λ d. leq_datatype d decimal && false) (λ d. false) tt d

plus_step : (a b m n : Bool) (k l d : Datatype) → (T a → eqb (family k) 2 ≡ m) → (T b → eqb (family l) 2 ≡ n)
    → (leq_datatype d decimal && ((a && leq_datatype k d) && (b && leq_datatype l d))) ≡ ((a && (b && (m && (n && true)))) && leq_datatype (join k l) d)
plus_step true true m n k l d h j =
    datatype-equal3 (λ k l d. leq_datatype d decimal && (leq_datatype k d && leq_datatype l d))
    (λ k l d. (eqb (family k) 2 && (eqb (family l) 2 && true)) && leq_datatype (join k l) d) tt k l d
    ∙ ap₂ (λ m n. (m && (n && true)) && leq_datatype (join k l) d) (h tt) (j tt)
plus_step true false m n k l d h j = datatype-equal2 (λ k d. leq_datatype d decimal && (leq_datatype k d && false)) (λ k d. false) tt k d
plus_step false true m n k l d h j = datatype-equal (λ d. leq_datatype d decimal && false) (λ d. false) tt d
plus_step false false m n k l d h j = datatype-equal (λ d. leq_datatype d decimal && false) (λ d. false) tt d

text-step : (a m : Bool) (l : Datatype) → (T a → eqb (family l) 1 ≡ m) → (a && leq_datatype l string) ≡ (a && (m && true))
text-step true m l h = datatype-equal (λ l. leq_datatype l string) (λ l. eqb (family l) 1 && true) tt l ∙ ap (λ m. m && true) (h tt)
text-step false m l h = refl

equal-step : (a b m : Bool) (k l : Datatype) → (T a → T b → eqb (family k) (family l) ≡ m)
    → some_datatype (λ d. (a && leq_datatype k d) && (b && leq_datatype l d)) ≡ (a && (b && (m && true)))
equal-step true true m k l h =
    datatype-equal2 (λ k l. some_datatype (λ d. leq_datatype k d && leq_datatype l d)) (λ k l. eqb (family k) (family l) && true) tt k l
    ∙ ap (λ m. m && true) (h tt tt)
equal-step true false m k l h = datatype-equal (λ k. some_datatype (λ d. leq_datatype k d && false)) (λ k. false) tt k
equal-step false true m k l h = refl
equal-step false false m k l h = refl

property-step : (τ σ : Ty) → some_datatype (λ d. same_type τ (range d) && leq_datatype (own_datatype σ) d) ≡ is_property any_uri τ σ
property-step τ σ = type-equal2 (λ τ σ. some_datatype (λ d. same_type τ (range d) && leq_datatype (own_datatype σ) d)) (is_property any_uri) tt τ σ

-- ── when a demand is met ────────────────────────────────────────────────────────────────────

module _ (constants : ℕ → Sort) (Γ : ℕ → Ty) where
  abbrev pub name_type : Name → Ty
  name_type (var x) = Γ x
  name_type (const c) = least (constants c)

  abbrev pub node_datatype : Node → Datatype
  node_datatype (Node.name n) = own_datatype (name_type n)
  node_datatype (Node.fixed d) = d

  abbrev pub node_family : Node → ℕ
  node_family a = family (node_datatype a)

  abbrev pub met : Demand → Bool
  met (same a b) = eqb (node_family a) (node_family b)
  met (property p o) = is_property any_uri (name_type p) (name_type o)

  abbrev pub all_met : List Demand → Bool
  all_met cs = every met cs

  name-has : (n : Name) (d : Datatype) → name_has constants Γ n (plain d) ≡ leq_datatype (own_datatype (name_type n)) d
  unfolding name_has
  name-has (var x) d = leq-plain (Γ x) d
  name-has (const c) d = has-least (constants c) (plain d) ∙ leq-plain (least (constants c)) d

  -- ── expressions: a well typed one has the datatypes above its least ───────────────────────

  abbrev least_of : Expr → Datatype
  least_of (Expr.name n) = own_datatype (name_type n)
  least_of Expr.now = date_time
  least_of (Expr.str e) = string
  least_of (Expr.abs e) = least_of e
  least_of (Expr.plus e f) = join (least_of e) (least_of f)
  least_of (Expr.minus e f) = join (least_of e) (least_of f)

  abbrev fine : Expr → Bool
  fine e = all_met (expr_demands e)

  append-met : (xs ys zs : List Demand) → all_met (xs ++ (ys ++ zs)) ≡ (all_met xs && (all_met ys && all_met zs))
  append-met xs ys zs = every_append met xs (ys ++ zs) ∙ ap (λ b. all_met xs && b) (every_append met ys zs)

  -- the two operands of plus or minus
  abbrev numbers : Expr → Expr → List Demand
  numbers e f = is_number e ∷ is_number f ∷ []

  abbrev operands : Expr → Expr → List Demand
  operands e f = expr_demands e ++ (expr_demands f ++ numbers e f)

  abbrev Agrees : Expr → Type 0
  Agrees e = T (fine e) → family (least_of e) ≡ node_family (expr_node e)

  operands-family : (e f : Expr) → Agrees e → Agrees f → T (all_met (operands e f)) → family (join (least_of e) (least_of f)) ≡ 2
  operands-family e f p q h =
      let r = every-right met (expr_demands e) (expr_demands f ++ numbers e f) h in
      let n = every-at met (numbers e f) (every-right met (expr_demands f) (numbers e f) r) in
      by-test (λ d. family d ≡ 2) (leq_datatype (least_of e) (least_of f)) (least_of f) (least_of e)
      (λ t. q (every-left met (expr_demands f) (numbers e f) r) ∙ eqb→eq (node_family (expr_node f)) 2 (n (is_number f) (there here)))
      (λ t. p (every-left met (expr_demands e) (expr_demands f ++ numbers e f) h) ∙ eqb→eq (node_family (expr_node e)) 2 (n (is_number e) here))

  -- the least datatype is of the node's family
  least-family : (e : Expr) → Agrees e
  unfolding expr_node expr_demands
  least-family (Expr.name n) h = refl
  least-family Expr.now h = refl
  least-family (Expr.str e) h = refl
  least-family (Expr.abs e) h =
      least-family e (every-left met (expr_demands e) (is_number e ∷ []) h)
      ∙ eqb→eq (node_family (expr_node e)) 2 (every-at met (is_number e ∷ []) (every-right met (expr_demands e) (is_number e ∷ []) h) (is_number e) here)
  least-family (Expr.plus e f) h = operands-family e f (least-family e) (least-family f) h
  least-family (Expr.minus e f) h = operands-family e f (least-family e) (least-family f) h

  number-family : (e : Expr) → T (fine e) → eqb (family (least_of e)) 2 ≡ met (is_number e)
  number-family e h = ap (λ n. eqb n 2) (least-family e h)

  operands-least : (e f : Expr) (d : Datatype)
      → (leq_datatype d decimal && ((fine e && leq_datatype (least_of e) d) && (fine f && leq_datatype (least_of f) d)))
      ≡ (all_met (operands e f) && leq_datatype (join (least_of e) (least_of f)) d)
  operands-least e f d =
      plus_step (fine e) (fine f) (met (is_number e)) (met (is_number f)) (least_of e) (least_of f) d (number-family e) (number-family f)
      ∙ ap (λ b. b && leq_datatype (join (least_of e) (least_of f)) d) (sym (append-met (expr_demands e) (expr_demands f) (numbers e f)))

  expr-least : (e : Expr) (d : Datatype) → expr_has constants Γ e d ≡ (fine e && leq_datatype (least_of e) d)
  unfolding expr_has expr_node expr_demands
  expr-least (Expr.name n) d = name-has n d
  expr-least Expr.now d = datatype-equal (λ d. same_datatype d date_time) (leq_datatype date_time) tt d
  expr-least (Expr.str e) d = simp (expr-least e) (str-step (fine e) (least_of e) d)
  expr-least (Expr.abs e) d =
      rw (expr-least e d)
      (abs-step (fine e) (met (is_number e)) (least_of e) d (number-family e)
      ∙ ap (λ b. b && leq_datatype (least_of e) d) (sym (every_append met (expr_demands e) (is_number e ∷ []))))
  expr-least (Expr.plus e f) d = rw (expr-least e d, expr-least f d) (operands-least e f d)
  expr-least (Expr.minus e f) d = rw (expr-least e d, expr-least f d) (operands-least e f d)

  -- ── the rules ─────────────────────────────────────────────────────────────────────────────

  text-met : (e : Expr) → expr_has constants Γ e string ≡ all_met (expr_demands e ++ (is_string e ∷ []))
  text-met e =
      expr-least e string
      ∙ text-step (fine e) (met (is_string e)) (least_of e) (λ h. ap (λ n. eqb n 1) (least-family e h))
      ∙ sym (every_append met (expr_demands e) (is_string e ∷ []))

  sides-met : (e f : Expr) → some_datatype (λ d. expr_has constants Γ e d && expr_has constants Γ f d)
      ≡ all_met (expr_demands e ++ (expr_demands f ++ (same (expr_node e) (expr_node f) ∷ [])))
  sides-met e f =
      simp (expr-least e, expr-least f)
      (equal-step (fine e) (fine f) (met (same (expr_node e) (expr_node f))) (least_of e) (least_of f) (λ h k. ap₂ eqb (least-family e h) (least-family f k))
      ∙ sym (append-met (expr_demands e) (expr_demands f) (same (expr_node e) (expr_node f) ∷ [])))

  cond-met : (c : Cond) → cond_typed constants Γ c ≡ all_met (cond_demands c)
  unfolding cond_typed cond_demands
  cond-met Cond.no = refl
  cond-met Cond.yes = refl
  cond-met (Cond.or c d) = ap₂ ◌&&◌ (cond-met c) (cond-met d) ∙ sym (every_append met (cond_demands c) (cond_demands d))
  cond-met (Cond.and c d) = ap₂ ◌&&◌ (cond-met c) (cond-met d) ∙ sym (every_append met (cond_demands c) (cond_demands d))
  cond-met (Cond.not c) = cond-met c
  cond-met (Cond.regex p e) = text-met e
  cond-met (Cond.lang_matches r e) = text-met e
  cond-met (Cond.equal e f) = sides-met e f
  cond-met (Cond.less e f) = sides-met e f

  uri-met : (n : Name) → name_has constants Γ n (plain any_uri) ≡ met (is_uri n)
  uri-met n = name-has n any_uri ∙ datatype-equal (λ d. leq_datatype d any_uri) (λ d. eqb (family d) 0) tt (own_datatype (name_type n))

  allows-met : (k : Sort) (o : Name) → allows k (λ d. name_has constants Γ o (plain d)) ≡ is_property any_uri (least k) (name_type o)
  unfolding least
  allows-met (Sort.uri none) o = refl
  allows-met (Sort.uri (some d)) o = name-has o d
  allows-met (Sort.literal d) o = refl

  property-met : (p o : Name) → property_typed constants Γ p o ≡ met (property p o)
  unfolding property_typed
  property-met (const c) o = allows-met (constants c) o
  property-met (var x) o = simp (name-has o) (property-step (Γ x) (name_type o))

  query-met : (q : Query) → query_typed constants Γ q ≡ all_met (query_demands q)
  unfolding query_typed query_demands
  query-met (Query.pattern g s p o) = ap₂ ◌&&◌ (uri-met g) (ap₂ ◌&&◌ (uri-met s) (property-met p o ∙ sym (and-true (met (property p o)))))
  query-met (Query.both q r) = ap₂ ◌&&◌ (query-met q) (query-met r) ∙ sym (every_append met (query_demands q) (query_demands r))
  query-met (Query.union q r) = ap₂ ◌&&◌ (query-met q) (query-met r) ∙ sym (every_append met (query_demands q) (query_demands r))
  query-met (Query.filter c) = cond-met c
  query-met Query.empty = refl

  pub script-met : (s : Script) → script_typed constants Γ s ≡ all_met (script_demands s)
  unfolding script_typed script_demands
  script-met (success at) = refl
  script-met (from_named at n c) = ap₂ ◌&&◌ (uri-met n) (script-met c)
  script-met (block at each bs q c) = ap₂ ◌&&◌ (query-met q) (script-met c) ∙ sym (every_append met (query_demands q) (script_demands c))
  script-met (sequence at c d) = ap₂ ◌&&◌ (script-met c) (script-met d) ∙ sym (every_append met (script_demands c) (script_demands d))
