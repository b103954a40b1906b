-- Document 01, "Roster cases": the rows marked M, as one table with one theorem.
use mathlib.Core.Path.{◌≡◌, refl, subst}
use Prim.Native.Nat.{ℕ, ◌-◌}
use mathlib.Core.List.{List, [], ◌∷◌, ◌++◌, map}
use mathlib.Core.Bool.{false}
use mathlib.Core.Option.{some, none}
use lib.IntN.{pos}
use lib.ListN.{get_or, length, replicate}
use Rattle.definitions.specs.Types.{Datatype, any_uri, string, decimal, integer, Ty, plain, range}
use Rattle.definitions.specs.Ascii.{ascii}
use Rattle.definitions.specs.Terms.{Text, Term, Schema, Entry, Sort, same_term, datatype_in, sort_of}
use Rattle.definitions.specs.Tree.{Name, var, const, Expr, Cond, Query, Binder, Script, success, block}
use Rattle.definitions.specs.Scope.{binders_of}
use Rattle.definitions.specs.Typing.{name_has, expr_has, cond_typed, property_typed, query_typed, script_typed, written_in, written_types, each_with, assignments, those, typings, above}
use Rattle.definitions.specs.Typing.{Verdict, no_typing, no_greatest, greatest, first_above, judge, verdict}
use Rattle.definitions.specs.Machine.{numbered, with_properties}
use Rattle.definitions.specs.Calls.{constants_of}

-- ── the schema and the terms ────────────────────────────────────────────────────────────────

abbrev entry : Text → Datatype → Entry
entry p d = record { property = p; datatype = d }

-- Schema: p:speed decimal, p:addr integer, p:name string.
abbrev pub schema : Schema
schema = entry (ascii "p:speed") decimal ∷ entry (ascii "p:addr") integer ∷ entry (ascii "p:name") string ∷ []

-- the integer 3 and the decimal 3.5 are listed; a load numbers the schema's URIs after them
abbrev pub terms : List Term
terms = with_properties schema (Term.integer (pos 3) ∷ Term.decimal (pos 3500000) ∷ [])

abbrev three : Name
three = const 0

abbrev three_and_half : Name
three_and_half = const 1

abbrev speed : Name
speed = const 2

abbrev addr : Name
addr = const 3

abbrev name : Name
name = const 4

-- ── scripts of one block ────────────────────────────────────────────────────────────────────

-- patterns have open $g, $s
abbrev $g : Name
$g = var 0

abbrev $s : Name
$s = var 1

-- a row's first variable, and its second
abbrev $v : Name
$v = var 2

abbrev $p : Name
$p = var 2

abbrev $o : Name
$o = var 3

abbrev $x : Name
$x = var 2

abbrev $y : Name
$y = var 3

abbrev opened : ℕ → Binder
opened x = record { variable = x; written = none }

abbrev selects : List ℕ → Query → Script
selects xs q = block 0 false (map opened xs) q (success 0)

-- a query with $g, $s and one variable; with two; with two and no pattern
abbrev one : Query → Script
one q = selects (0 ∷ 1 ∷ 2 ∷ []) q

abbrev two : Query → Script
two q = selects (0 ∷ 1 ∷ 2 ∷ 3 ∷ []) q

abbrev bare : Query → Script
bare q = selects (2 ∷ 3 ∷ []) q

abbrev pattern : Name → Name → Query
pattern p o = Query.pattern $g $s p o

abbrev equal : Name → Name → Query
equal m n = Query.filter (Cond.equal (Expr.name m) (Expr.name n))

infixr 60 ◌with◌
abbrev ◌with◌ : Query → Query → Query
q with r = Query.both q r

-- ── the table ───────────────────────────────────────────────────────────────────────────────

pub record Row : Type 0 where
  pub script : Script
  pub expected : Verdict

abbrev gives : Script → Verdict → Row
gives s v = record { script = s; expected = v }

-- the types of the row's variables; $g and $s are any_uri, and so stands a variable that no pair binds
abbrev types : List Ty → Verdict
types τs = greatest (plain any_uri ∷ plain any_uri ∷ (τs ++ replicate (14 - length τs) (plain any_uri)))

abbrev pub rows : List Row
rows =
    -- `p:speed $v`: v decimal
    gives (one (pattern speed $v)) (types (plain decimal ∷ []))
    -- with `p:addr $v` too: integer
    ∷ gives (one (pattern speed $v with pattern addr $v)) (types (plain integer ∷ []))
    -- with `p:name $v` instead: 8
    ∷ gives (one (pattern speed $v with pattern name $v)) no_typing
    -- `$p 3`: p range(integer)
    ∷ gives (one (pattern $p three)) (types (range integer ∷ []))
    -- `$p 3.5`: p range(decimal)
    ∷ gives (one (pattern $p three_and_half)) (types (range decimal ∷ []))
    -- `$p $o`: 9
    ∷ gives (two (pattern $p $o)) no_greatest
    -- with `p:name $o`: p range(string)
    ∷ gives (two (pattern $p $o with pattern name $o)) (types (range string ∷ plain string ∷ []))
    -- with `p:speed $o`: 9
    ∷ gives (two (pattern $p $o with pattern speed $o)) no_greatest
    -- with `p:addr $o`: p range(integer)
    ∷ gives (two (pattern $p $o with pattern addr $o)) (types (range integer ∷ plain integer ∷ []))
    -- `$x $x`: x range(any_uri)
    ∷ gives (one (pattern $x $x)) (types (range any_uri ∷ []))
    -- filter $x = $y alone: 9
    ∷ gives (bare (equal $x $y)) no_greatest
    -- with $y = 3: both decimal
    ∷ gives (bare (equal $x $y with equal $y three)) (types (plain decimal ∷ plain decimal ∷ []))
    ∷ []

-- ── the theorem ─────────────────────────────────────────────────────────────────────────────

-- the sorts of the terms, worked out once
constants : ℕ → Sort
constants c =
    get_or (Sort.literal integer ∷ Sort.literal decimal ∷ Sort.uri (some decimal) ∷ Sort.uri (some integer) ∷ Sort.uri (some string) ∷ []) c (Sort.uri none)

constants-are : constants ≡ constants_of schema terms
unfolding constants constants_of ascii same_term datatype_in sort_of numbered with_properties
constants-are = refl

-- The verdict of a load on each row is the one expected, by running the definition.
abbrev pub verdict_on : (ℕ → Sort) → Row → Verdict
verdict_on sorts r = verdict sorts (written_types r.script) r.script

pub roster : map (verdict_on (constants_of schema terms)) rows ≡ map (λ r. r.expected) rows
unfolding constants name_has expr_has cond_typed property_typed query_typed script_typed binders_of written_in written_types
    each_with assignments those typings above first_above judge verdict
roster = subst (λ sorts. map (verdict_on sorts) rows ≡ map (λ r. r.expected) rows) constants-are refl
