-- Operations on the saved store, which a page changes.
use Rattle.std.specs.Prelude.{ℕ, ◌+◌, Bool, cond, ◌||◌, List, ltb, set, take}
use Rattle.definitions.specs.Limits.{graph_limit}
use Rattle.definitions.specs.Lists.{is_in}
use Rattle.definitions.specs.declared.SavedStore.{SavedStore}

abbrev pub fetched_in : SavedStore → List ℕ
fetched_in s = take s.graphs s.fetched

-- a graph that is fetched, or has room in the list
unfoldable pub graph_fits : SavedStore → ℕ → Bool
graph_fits s g = is_in g (fetched_in s) || ltb s.graphs graph_limit

abbrev pub store_with : (quads graphs : ℕ) → (fetched : List ℕ) → SavedStore
store_with quads graphs fetched = record { quads = quads; graphs = graphs; fetched = fetched }

-- after a page: so many quads, and its graph in the fetched list
unfoldable pub paged : SavedStore → (graph quads : ℕ) → SavedStore
paged s g quads =
    cond (is_in g (fetched_in s)) (store_with quads s.graphs s.fetched) (store_with quads (s.graphs + 1) (set s.fetched s.graphs g))
