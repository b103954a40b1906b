-- Document 01, "Typing": the rules, and what a load answers (refusals 8 and 9).
use Rattle.std.specs.Prelude.{ℕ, List, [], ◌∷◌, ◌++◌, map, Bool, true, false, ◌&&◌, eqb, get_or}
use Rattle.std.proofs.Math.Option.{Option, none, some}
use Rattle.definitions.specs.Lists.{every}
use Rattle.definitions.specs.Types.{Datatype, any_uri, string, decimal, date_time, Ty, plain, range, leq_datatype, leq, same_datatype, same_type, some_datatype, all_types}
use Rattle.definitions.specs.Terms.{Sort, has}
use Rattle.definitions.specs.Tree.{Name, var, const, Expr, Cond, Query, Script, success, from_named, block, sequence, Binder}
use Rattle.definitions.specs.Scope.{variables, binders_of}

-- ── the rules ───────────────────────────────────────────────────────────────────────────────

-- a constant as a property must be a schema URI, and the object has its datatype
abbrev pub allows : Sort → (object : Datatype → Bool) → Bool
allows (Sort.uri none) object = false
allows (Sort.uri (some d)) object = object d
allows (Sort.literal d) object = false

-- over the constants, by term number, and the variables' types
module _ (constants : ℕ → Sort) (Γ : ℕ → Ty) where
  -- variables have every type above theirs
  unfoldable pub name_has : Name → Ty → Bool
  name_has (var x) τ = leq (Γ x) τ
  name_has (const c) τ = has (constants c) τ

  -- plus, minus and abs want one datatype below or equal to decimal and give it; str wants any datatype and gives string; now is date_time
  unfoldable pub expr_has : Expr → Datatype → Bool
  expr_has (Expr.name n) d = name_has n (plain d)
  expr_has Expr.now d = same_datatype d date_time
  expr_has (Expr.str e) d = same_datatype d string && some_datatype (λ any. expr_has e any)
  expr_has (Expr.abs e) d = leq_datatype d decimal && expr_has e d
  expr_has (Expr.plus e f) d = leq_datatype d decimal && (expr_has e d && expr_has f d)
  expr_has (Expr.minus e f) d = leq_datatype d decimal && (expr_has e d && expr_has f d)

  -- regex and lang_matches want string; equal and less want one datatype for both sides
  unfoldable pub cond_typed : Cond → Bool
  cond_typed Cond.no = true
  cond_typed Cond.yes = true
  cond_typed (Cond.or c d) = cond_typed c && cond_typed d
  cond_typed (Cond.and c d) = cond_typed c && cond_typed d
  cond_typed (Cond.not c) = cond_typed c
  cond_typed (Cond.regex p e) = expr_has e string
  cond_typed (Cond.lang_matches r e) = expr_has e string
  cond_typed (Cond.equal e f) = some_datatype (λ d. expr_has e d && expr_has f d)
  cond_typed (Cond.less e f) = some_datatype (λ d. expr_has e d && expr_has f d)

  -- a property variable has type range(d) for a d that the object has
  unfoldable pub property_typed : (property object : Name) → Bool
  property_typed (const c) o = allows (constants c) (λ d. name_has o (plain d))
  property_typed (var x) o = some_datatype (λ d. same_type (Γ x) (range d) && name_has o (plain d))

  -- a pattern's graph and subject are any_uri
  unfoldable pub query_typed : Query → Bool
  query_typed (Query.pattern g s p o) = name_has g (plain any_uri) && (name_has s (plain any_uri) && property_typed p o)
  query_typed (Query.both q r) = query_typed q && query_typed r
  query_typed (Query.union q r) = query_typed q && query_typed r
  query_typed (Query.filter c) = cond_typed c
  query_typed Query.empty = true

  -- from named wants any_uri
  unfoldable pub script_typed : Script → Bool
  script_typed (success at) = true
  script_typed (from_named at n c) = name_has n (plain any_uri) && script_typed c
  script_typed (block at each bs q c) = query_typed q && script_typed c
  script_typed (sequence at c d) = script_typed c && script_typed d

-- ── typings ─────────────────────────────────────────────────────────────────────────────────

-- what is written at a variable: no pair binds it, or a pair does, with an open type or a fixed one
pub data Written : Type 0 where
  unbound undecided : Written
  fixed : Ty → Written

abbrev pub is_open : Written → Bool
is_open unbound = false
is_open undecided = true
is_open (fixed τ) = false

abbrev pub annotated : Option Ty → Written
annotated none = undecided
annotated (some τ) = fixed τ

unfoldable pub written_in : List Binder → ℕ → Written
written_in [] x = unbound
written_in (b ∷ bs) x = elim (eqb b.variable x) [ true ↦ annotated b.written | false ↦ written_in bs x ]

-- of each of the 16 variables
unfoldable pub written_types : Script → List Written
written_types s = map (written_in (binders_of s)) variables

-- A written type is fixed; an open one may be any of the ten. (A variable that no pair binds stands as any_uri, so that a typing has 16 types.)
abbrev pub choices : Written → List Ty
choices unbound = plain any_uri ∷ []
choices undecided = all_types
choices (fixed τ) = τ ∷ []

-- each of the types in front of each of the lists
unfoldable pub each_with : List Ty → List (List Ty) → List (List Ty)
each_with [] rest = []
each_with (τ ∷ τs) rest = map (λ Γ. τ ∷ Γ) rest ++ each_with τs rest

-- every way to choose a type for each variable
unfoldable pub assignments : List Written → List (List Ty)
assignments [] = [] ∷ []
assignments (w ∷ ws) = each_with (choices w) (assignments ws)

-- the type of a variable
abbrev pub type_at : List Ty → ℕ → Ty
type_at Γ x = get_or Γ x (plain any_uri)

-- those that pass, as `keep` has them (`laws`, `Lists.those-is-keep`); a test waits until it is asked
unfoldable pub those : {A : Type 0} → (A → Bool) → List A → List A
those p [] = []
those p (x ∷ xs) = elim (p x) [ true ↦ x ∷ those p xs | false ↦ those p xs ]

-- a typing: an assignment that the rules take
unfoldable pub typings : (ℕ → Sort) → List Written → Script → List (List Ty)
typings constants ws s = those (λ Γ. script_typed constants (type_at Γ) s) (assignments ws)

-- a typing is above another if each variable's type is
unfoldable pub above : List Ty → List Ty → Bool
above [] [] = true
above [] (σ ∷ Δ) = false
above (τ ∷ Γ) [] = false
above (τ ∷ Γ) (σ ∷ Δ) = leq σ τ && above Γ Δ

-- ── the answer ──────────────────────────────────────────────────────────────────────────────

-- refusal 8, no typing; refusal 9, typings, none above the rest; or the typing above all others
pub data Verdict : Type 0 where
  no_typing no_greatest : Verdict
  greatest : List Ty → Verdict

-- of some typings, the first that is above all
unfoldable pub first_above : List (List Ty) → (all : List (List Ty)) → Verdict
first_above [] all = no_greatest
first_above (Γ ∷ Γs) all = elim (every (above Γ) all) [ true ↦ greatest Γ | false ↦ first_above Γs all ]

unfoldable pub judge : List (List Ty) → Verdict
judge [] = no_typing
judge (Γ ∷ Γs) = first_above (Γ ∷ Γs) (Γ ∷ Γs)

unfoldable pub verdict : (constants : ℕ → Sort) → List Written → Script → Verdict
verdict constants ws s = judge (typings constants ws s)
