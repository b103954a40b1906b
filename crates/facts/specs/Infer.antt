-- The verdict, read off the tables.
use Rattle.std.specs.Prelude.{ℕ, zero, suc, List, map, Bool, true, false, cond, not, ◌&&◌, ◌||◌, eqb, ltb, get_or}
use Rattle.definitions.specs.Limits.{variable_limit}
use Rattle.definitions.specs.Types.{Datatype, any_uri, string, decimal, date_time, integer, Ty, plain, range}
use Rattle.definitions.specs.Terms.{Sort}
use Rattle.definitions.specs.Tree.{Script}
use Rattle.definitions.specs.Scope.{variables}
use Rattle.definitions.specs.Typing.{Written, unbound, undecided, fixed, is_open, Verdict, no_typing, no_greatest, greatest}
use Rattle.facts.specs.Demands.{script_demands}
use Rattle.facts.specs.UnionFind.{root_in}
use Rattle.facts.specs.declared.noting.Tables.{Tables}
use Rattle.facts.specs.Tables.{family_limit, own_node, range_node, edge_at, fresh, all_noted}
use Rattle.laws.specs.Lists.{flag}

-- every number below n passes
unfoldable pub all_below : ℕ → (ℕ → Bool) → Bool
all_below zero f = true
all_below (suc n) f = all_below n f && f n

-- the type of a variable, if the one given is worked out for an open one
abbrev pub chosen : Written → Ty → Ty
chosen unbound τ = plain any_uri
chosen undecided τ = τ
chosen (fixed σ) τ = σ

-- the datatype of a family, of the numbers the one given
abbrev pub of_family : ℕ → Datatype → Datatype
of_family zero d = any_uri
of_family (suc zero) d = string
of_family (suc (suc zero)) d = d
of_family (suc (suc (suc n))) d = date_time

-- a variable's type: is it a property, is its datatype integer, is its range decimal; the families of its datatype and of its range
abbrev pub made : (property low high : Bool) (own ranged : ℕ) → Ty
made true low high f g = range (of_family g (cond high decimal integer))
made false low high f g = plain (of_family f (cond low integer decimal))

module _ (t : Tables) where
  abbrev pub root : ℕ → ℕ
  root n = root_in t.families.parents n

  -- no two families are one
  unfoldable pub apart : Bool
  apart = eqb (root 1) 1 && (eqb (root 2) 2 && eqb (root 3) 3)

  -- no family of the variable is left open
  unfoldable pub settled : ℕ → Bool
  settled x = ltb (root (own_node x)) family_limit && (not (flag t.property x) || ltb (root (range_node x)) family_limit)

  -- a property and its object, if numbers, do not both take their greatest type, range(integer) and decimal
  unfoldable pub tight : ℕ → ℕ → Bool
  tight p x = not (flag t.edges (edge_at p x)) || (not (eqb (root (range_node p)) 2) || (flag t.low x || flag t.high p))

  -- every open variable has one greatest type
  unfoldable pub decided : List Written → Bool
  decided ws =
      all_below variable_limit (λ x. not (is_open (get_or ws x unbound)) || settled x)
      && all_below variable_limit (λ p. all_below variable_limit (tight p))

  -- the greatest type that the tables allow
  unfoldable pub best : ℕ → Ty
  best x = made (flag t.property x) (flag t.low x) (flag t.high x) (root (own_node x)) (root (range_node x))

  unfoldable pub best_types : List Written → List Ty
  best_types ws = map (λ x. chosen (get_or ws x unbound) (best x)) variables

  unfoldable pub read_off : List Written → Verdict
  read_off ws = elim apart [ true ↦ elim (decided ws) [ true ↦ greatest (best_types ws) | false ↦ no_greatest ] | false ↦ no_typing ]

-- the tables of a script
abbrev pub tables_of : (ℕ → Sort) → List Written → Script → Tables
tables_of constants ws s = all_noted constants ws (script_demands s) fresh

unfoldable pub infer : (ℕ → Sort) → List Written → Script → Verdict
infer constants ws s = read_off (tables_of constants ws s) ws
