-- The keys of other graphs, and quads that are a base with keys put in.
use Rattle.std.specs.Prelude.{ℕ, ◌/◌, ◌≡◌, List, [], ◌∷◌, true, cond, not, eqb}
use Rattle.definitions.specs.Lists.{keep}
use Rattle.definitions.specs.Evaluate.{Quad}
use Rattle.definitions.specs.Machine.{in_order, of_graph}
use Rattle.laws.specs.Lists.{All}
use Rattle.laws.specs.Quads.{Small}
use Rattle.keys.specs.Keys.{graph_weight, keys_from, keys_of}
use Rattle.key_merging.specs.Inserted.{insert_all}

-- the keys of other graphs
unfoldable pub others : (graph : ℕ) → List ℕ → List ℕ
others g [] = []
others g (k ∷ ks) = cond (eqb (k / graph_weight) g) (others g ks) (k ∷ others g ks)

-- the quads of other graphs
abbrev pub apart : (graph : ℕ) → List Quad → List Quad
apart g qs = keep (λ q. not (of_graph g q)) qs

-- quads that are those of a base with m keys put in
pub record Gathered (base : List Quad) (fresh : List ℕ) (m : ℕ) (qs : List Quad) : Type 0 where
  pub order : in_order base ≡ true
  pub small : All Small base
  pub all_small : All Small qs
  pub keys : keys_of qs ≡ insert_all (keys_from m fresh 0) (keys_of base)
