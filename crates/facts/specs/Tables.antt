-- What the demands come to, in tables: families merged, and inside the number family which variables have to be integer or decimal.
use Rattle.std.specs.Prelude.{ℕ, ◌+◌, ◌*◌, List, [], ◌∷◌, Bool, true, false, cond, get_or, set, replicate}
use Rattle.definitions.specs.Limits.{variable_limit}
use Rattle.definitions.specs.Types.{Datatype, any_uri, decimal, integer, Ty, plain, range, leq_datatype, same_datatype}
use Rattle.definitions.specs.Terms.{Sort}
use Rattle.definitions.specs.Tree.{Name, var, const}
use Rattle.definitions.specs.Typing.{Written, unbound, undecided, fixed}
use Rattle.laws.specs.Sorts.{least}
use Rattle.codes.specs.Family.{family, own_datatype}
use Rattle.facts.specs.Demands.{Node, Demand, same, property}
use Rattle.facts.specs.UnionFind.{merge_in}
use Rattle.laws.specs.Lists.{up_from}
use Rattle.facts.specs.declared.noting.Tables.{Tables}

-- ── the tables ──────────────────────────────────────────────────────────────────────────────

-- Nodes: the families, then one for each variable's datatype, then one for each variable's range.
abbrev pub family_limit : ℕ
family_limit = 4

abbrev pub range_nodes : ℕ
range_nodes = family_limit + variable_limit

abbrev pub node_limit : ℕ
node_limit = range_nodes + variable_limit

abbrev pub own_node : ℕ → ℕ
own_node x = family_limit + x

abbrev pub range_node : ℕ → ℕ
range_node x = range_nodes + x

-- a flag for each pair of variables
abbrev pub edge_limit : ℕ
edge_limit = variable_limit * variable_limit

-- where the flag of a pair stands
abbrev pub edge_at : ℕ → ℕ → ℕ
edge_at p x = variable_limit * p + x

-- `Tables` and `Families` are the structs of the code: flags for each variable, and for each pair of variables
unfoldable pub fresh : Tables
fresh = record {
  families = record { parents = up_from 0 node_limit };
  low = replicate variable_limit false;
  high = replicate variable_limit false;
  property = replicate variable_limit false;
  edges = replicate edge_limit false;
}

-- ── noting one thing ────────────────────────────────────────────────────────────────────────

abbrev pub merged : (m n : ℕ) → Tables → Tables
merged m n t = record {
  families = record { parents = merge_in t.families.parents m n };
  low = t.low;
  high = t.high;
  property = t.property;
  edges = t.edges;
}

abbrev pub with_low : ℕ → Tables → Tables
with_low x t = record { families = t.families; low = set t.low x true; high = t.high; property = t.property; edges = t.edges }

abbrev pub with_high : ℕ → Tables → Tables
with_high p t = record { families = t.families; low = t.low; high = set t.high p true; property = t.property; edges = t.edges }

abbrev pub with_property : ℕ → Tables → Tables
with_property p t = record { families = t.families; low = t.low; high = t.high; property = set t.property p true; edges = t.edges }

abbrev pub with_edge : ℕ → ℕ → Tables → Tables
with_edge p x t = record { families = t.families; low = t.low; high = t.high; property = t.property; edges = set t.edges (edge_at p x) true }

abbrev pub when : Bool → (Tables → Tables) → Tables → Tables
when b f t = cond b (f t) t

-- a variable's datatype is at most d
unfoldable pub at_most : ℕ → Datatype → Tables → Tables
at_most x d t = when (same_datatype d integer) (with_low x) (merged (own_node x) (family d) t)

-- a variable is a property
unfoldable pub as_property : ℕ → Tables → Tables
as_property p t = with_property p (merged (own_node p) (family any_uri) t)

-- and its range is at least d
unfoldable pub at_least : ℕ → Datatype → Tables → Tables
at_least p d t = when (same_datatype d decimal) (with_high p) (merged (range_node p) (family d) (as_property p t))

-- and another variable is its object
unfoldable pub edge : ℕ → ℕ → Tables → Tables
edge p x t = with_edge p x (merged (range_node p) (own_node x) (as_property p t))

-- no typing: two families are one
unfoldable pub impossible : Tables → Tables
impossible t = merged 0 1 t

-- ── noting a demand ─────────────────────────────────────────────────────────────────────────

-- what a term of the script stands for: an open variable, or what has a known least type
pub data Place : Type 0 where
  variable : ℕ → Place
  known : Ty → Place

abbrev pub written_place : ℕ → Written → Place
written_place x unbound = known (plain any_uri)
written_place x undecided = variable x
written_place x (fixed τ) = known τ

abbrev pub place_node : Place → ℕ
place_node (variable x) = own_node x
place_node (known τ) = family (own_datatype τ)

-- a property and its object
unfoldable pub related : (property object : Place) → Tables → Tables
related (variable p) (variable x) t = edge p x t
related (variable p) (known τ) t = at_least p (own_datatype τ) t
related (known (plain d)) (variable x) t = impossible t
related (known (plain d)) (known τ) t = impossible t
related (known (range d)) (variable x) t = at_most x d t
related (known (range d)) (known τ) t = cond (leq_datatype (own_datatype τ) d) t (impossible t)

module _ (constants : ℕ → Sort) (ws : List Written) where
  unfoldable pub place : Name → Place
  place (var x) = written_place x (get_or ws x unbound)
  place (const c) = known (least (constants c))

  unfoldable pub node_at : Node → ℕ
  node_at (Node.name n) = place_node (place n)
  node_at (Node.fixed d) = family d

  unfoldable pub noted : Demand → Tables → Tables
  noted (same a b) t = merged (node_at a) (node_at b) t
  noted (property p o) t = related (place p) (place o) t

  unfoldable pub all_noted : List Demand → Tables → Tables
  all_noted [] t = t
  all_noted (c ∷ cs) t = all_noted cs (noted c t)
