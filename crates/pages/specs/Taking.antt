-- What a page call leaves in the saved store and in both tables.
use Rattle.definitions.specs.declared.Refusal.TheVariants.{NoRoom}
use Rattle.std.specs.Prelude.{Ok, Err}
use Rattle.std.specs.Prelude.{ℕ, ◌≤◌, cond, List, ◌≡◌, length}
use Rattle.definitions.specs.Limits.{graph_limit}
use Rattle.definitions.specs.Terms.{Term, Schema, Triple}
use Rattle.definitions.specs.Evaluate.{Quad}
use Rattle.definitions.specs.Machine.{Store, Taken, taken, with_page, in_limits}
use Rattle.definitions.specs.Saved.{term_table, quad_table}
use Rattle.definitions.specs.declared.SavedStore.{SavedStore}
use Rattle.store.specs.Graphs.{fetched_in, paged}
use Rattle.pages.specs.declared.AfterPage.{AfterPage}
use Rattle.table.specs.Table.{HeldTerms}
use Rattle.pages.specs.Page.{HeldQuads}

-- what a page is taken into: terms, and the quads of other graphs
abbrev pub start_of : List Term → (others : List Quad) → Taken
start_of terms others = record { skipped = 0; terms = terms; quads = others }

-- both tables and the saved store hold a store
pub record HeldStore (term_bytes quad_bytes : List ℕ) (n : ℕ) (store : SavedStore) (σ : Store) : Type 0 where
  pub terms : HeldTerms term_bytes n σ.terms
  pub quads : HeldQuads quad_bytes store.quads σ.quads
  pub fetched : fetched_in store ≡ σ.fetched
  pub count : length σ.fetched ≡ store.graphs
  pub graphs : store.graphs ≤ graph_limit

abbrev pub HeldTables : (term_bytes quad_bytes : List ℕ) → ℕ → SavedStore → Type 0
HeldTables term_bytes quad_bytes n store = (σ : Store) × HeldStore term_bytes quad_bytes n store σ

-- 14, and the saved store as it was
abbrev pub refused_page : SavedStore → AfterPage
refused_page store = record { answer = Err NoRoom; store = store }

abbrev pub taken_page : SavedStore → (graph : ℕ) → Taken → AfterPage
taken_page store g k = record { answer = Ok k.skipped; store = paged store g (length k.quads) }

-- what the machine holds after the page, where no limit is passed; else what there was
pub record PageDone (S : Schema) (g : ℕ) (rs : List Triple) (σ : Store) (store : SavedStore) (terms₀ quads₀ : List ℕ) (r : AfterPage) (terms₁ quads₁ : List ℕ) : Type 0 where
  pub answer : r ≡ cond (in_limits (with_page g (taken S g rs σ) σ)) (taken_page store g (taken S g rs σ)) (refused_page store)
  pub term_bytes : terms₁ ≡ cond (in_limits (with_page g (taken S g rs σ) σ)) (term_table (taken S g rs σ).terms) terms₀
  pub quad_bytes : quads₁ ≡ cond (in_limits (with_page g (taken S g rs σ) σ)) (quad_table (taken S g rs σ).quads) quads₀
