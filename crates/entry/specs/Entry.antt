-- What a call on a saved run finds as it begins.
use Rattle.std.specs.Prelude.{ℕ, ◌≡◌, List, length}
use Rattle.definitions.specs.Calls as Calls
use Rattle.definitions.specs.Calls.{Lent}
use Rattle.definitions.specs.declared.SavedRun.{SavedRun}
use Rattle.table.specs.Hashes.{HashedEntries}
use Rattle.query.specs.declared.Context.{Context}
use Rattle.query.specs.StoreLent.{StoreLent}
use Rattle.entry.specs.declared.Entered.{Entered}

-- what a search is told where this was found, at a value of now
abbrev pub context_of : Entered → SavedRun → (clock : ℕ) → Context
context_of r saved clock = record { loaded = r.loaded; count = r.count; quads = saved.store.quads; clock = clock }

-- of a sound state: the store is lent, whatever now is, and the schema's URIs are hashed
pub record Found (l : Lent) (saved : SavedRun) (rows leasts : List ℕ) (x : Calls.Sound) (r : Entered) : Type 0 where
  pub loaded : r.loaded ≡ length x.checked.terms
  pub lent : (clock : ℕ) → StoreLent l.term_table rows leasts (context_of r saved clock) x.checked.schema x.state.store.terms x.state.store.quads
  pub hashed : HashedEntries l.schema r.entries
