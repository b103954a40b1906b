-- A page taken in leaves its graph holding exactly that page's well typed triples, and every other graph as it was.
use Rattle.std.specs.Prelude.{ℕ, ◌≡◌, ◌⊎◌, ◌↔◌, List, Bool, not, T, length}
use Rattle.definitions.specs.Lists.{keep, is_in, distinct}
use Rattle.definitions.specs.Terms.{Term, Schema, Triple, same_term}
use Rattle.definitions.specs.Evaluate.{Quad, same_quad, stored}
use Rattle.definitions.specs.Machine.{State, well_typed, of_graph, in_order}
use Rattle.definitions.specs.Calls.{PageTaken}
use Rattle.laws.specs.Lists.{◌∈◌}
use Rattle.laws.specs.Bindings.{Extends}
use Rattle.laws.specs.Quads.{Names}

-- a quad is a well typed triple of a page, by the numbers of its terms
pub record FromPage (S : Schema) (page : List Triple) (terms : List Term) (q : Quad) : Type 0 where
  pub triple : Triple
  pub in_page : triple ∈ page
  pub typed : T (well_typed S triple)
  pub names : Names terms q triple

abbrev pub not_of : ℕ → Quad → Bool
not_of g q = not (of_graph g q)

-- what the page of a graph leaves behind
pub record PageLeaves (S : Schema) (g : ℕ) (page : List Triple) (s : State) (k : PageTaken) : Type 0 where
  -- terms keep their numbers, and none has two
  pub numbers : Extends s.store.terms k.state.store.terms
  pub terms_apart : T (distinct same_term k.state.store.terms)
  -- the graph's quads are the page's well typed triples
  pub graph : (q : Quad) → q.graph ≡ g → T (stored q k.state.store.quads) ↔ FromPage S page k.state.store.terms q
  -- the quads of other graphs stay
  pub others : keep (not_of g) k.state.store.quads ≡ keep (not_of g) s.store.quads
  pub elsewhere : (q : Quad) → (q.graph ≡ g → ⊥) → stored q k.state.store.quads ≡ stored q s.store.quads
  -- the quads rise by graph, subject, property and object, so that none stands twice
  pub quads_in_order : T (in_order k.state.store.quads)
  pub quads_apart : T (distinct same_quad k.state.store.quads)
  -- the count of those that are not well typed
  pub skipped : k.skipped ≡ length (keep (λ r. not (well_typed S r)) page)
  -- the graph is fetched, and so are those that were
  pub fetched : (x : ℕ) → T (is_in x k.state.store.fetched) ↔ ((x ≡ g) ⊎ T (is_in x s.store.fetched))
  -- the stack and the bindings stay
  pub control : k.state.control ≡ s.control
