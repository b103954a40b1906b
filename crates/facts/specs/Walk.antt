-- What the walk over the script's bytes has noted of each tree that it read, from tables t to tables u.
use Rattle.std.specs.Prelude.{ℕ, ◌<◌, ◌≡◌, List}
use Rattle.definitions.specs.Tree.{Name, Expr, Cond, Query, Script}
use Rattle.facts.specs.UnionFind.{Forest}
use Rattle.facts.specs.declared.Place as Codes
use Rattle.facts.specs.declared.noting.Tables.{Tables}
use Rattle.facts.specs.Demands.{Demand, expr_node, expr_demands, cond_demands, query_demands, script_demands}
use Rattle.facts.specs.Tables.{node_limit, place, node_at, all_noted}
use Rattle.facts.specs.Codes.{sorts_in, all_written, place_of, PlaceIn}

-- the union-find of some tables hangs together
abbrev pub Joined : Tables → Type 0
Joined t = Forest node_limit t.families.parents

-- over the least types of the constants and the written types, by their codes
module _ (leasts written : List ℕ) where
  -- what a name stands for
  pub record PlacedAs (p : Codes.Place) (n : Name) : Type 0 where
    pub here : place_of p ≡ place (sorts_in leasts) (all_written written) n
    pub inside : PlaceIn p

  -- some demands
  pub record Noted (t u : Tables) (ds : List Demand) : Type 0 where
    pub tables : u ≡ all_noted (sorts_in leasts) (all_written written) ds t
    pub joined : Joined u

  -- an expression's demands, and the node of its value
  pub record ExprNoted (t u : Tables) (m : ℕ) (e : Expr) : Type 0 where
    pub noted : Noted t u (expr_demands e)
    pub node : m ≡ node_at (sorts_in leasts) (all_written written) (expr_node e)
    pub small : m < node_limit

  -- a boolean's, a query's, a script's demands
  abbrev pub CondNoted : (t u : Tables) → Cond → Type 0
  CondNoted t u c = Noted t u (cond_demands c)

  abbrev pub QueryNoted : (t u : Tables) → Query → Type 0
  QueryNoted t u q = Noted t u (query_demands q)

  abbrev pub ScriptNoted : (t u : Tables) → Script → Type 0
  ScriptNoted t u c = Noted t u (script_demands c)
