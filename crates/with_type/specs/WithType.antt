-- The tables of a script, as they would be with a type written at a variable that is open in them.
use Rattle.std.specs.Prelude.{ℕ, List, map, Bool, true, false, cond, not, ◌&&◌, ◌||◌}
use Rattle.definitions.specs.Types.{decimal, integer, Ty, plain, range, same_datatype}
use Rattle.definitions.specs.Scope.{variables}
use Rattle.laws.specs.Lists.{flag}
use Rattle.facts.specs.declared.noting.Tables.{Tables}
use Rattle.facts.specs.Tables.{edge_at, when, at_most, at_least, impossible}

-- where the flag of a variable and another stands: of a property and its object, or of an object and its property
abbrev pub pair_at : (objects : Bool) → (x other : ℕ) → ℕ
pair_at objects x other = cond objects (edge_at x other) (edge_at other x)

-- flags, and one more for each variable that passes a test
unfoldable pub flagged : List Bool → (ℕ → Bool) → List Bool
flagged flags more = map (λ x. flag flags x || more x) variables

-- the range of every property of an object is decimal
abbrev pub with_highs : (object : ℕ) → Tables → Tables
with_highs x t = record {
  families = t.families;
  low = t.low;
  high = flagged t.high (λ p. flag t.edges (pair_at false x p));
  property = t.property;
  edges = t.edges;
}

-- the datatype of every object of a property is integer
abbrev pub with_lows : (property : ℕ) → Tables → Tables
with_lows p t = record {
  families = t.families;
  low = flagged t.low (λ x. flag t.edges (pair_at true p x));
  high = t.high;
  property = t.property;
  edges = t.edges;
}

-- the flags of a variable leave it a type
unfoldable pub leaves : Tables → ℕ → Ty → Bool
leaves t x (plain d) = not (flag t.property x || (flag t.low x && same_datatype d decimal))
leaves t x (range d) = not (flag t.high x && same_datatype d integer)

-- A variable's type is at most the one given, and all others are as they have to be where it is that type.
unfoldable pub at_most_type : ℕ → Ty → Tables → Tables
at_most_type x (plain d) t = when (same_datatype d decimal) (with_highs x) (at_most x d t)
at_most_type x (range d) t = when (same_datatype d integer) (with_lows x) (at_least x d t)

unfoldable pub with_type : ℕ → Ty → Tables → Tables
with_type x τ t = cond (leaves t x τ) (at_most_type x τ t) (impossible t)
