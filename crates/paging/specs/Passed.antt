-- What has passed refusals 1, 10, 12 and 13 of a page call.
use Rattle.std.specs.Prelude.{ℕ, ◌≡◌, List, true, length}
use Rattle.std.proofs.Math.Option.{some}
use Rattle.std.proofs.Math.ListN.{get_elem?}
use Rattle.definitions.specs.Terms.{Triple}
use Rattle.definitions.specs.Result.{passed}
use Rattle.definitions.specs.Calls as Calls
use Rattle.definitions.specs.Calls.{Lent, entry_tests, is_graph, page_in}
use Rattle.definitions.specs.declared.SavedRun.{SavedRun}
use Rattle.table.specs.Hashes.{HashedEntries}

pub record Passed (l : Lent) (saved : SavedRun) (n : ℕ) (entries : List ℕ) (graph : ℕ) (page : List ℕ) : Type 0 where
  pub found : Calls.Sound
  pub entered : entry_tests l saved ≡ passed found
  pub count : n ≡ length found.state.store.terms
  pub hashed : HashedEntries l.schema entries
  pub is_uri : is_graph (get_elem? found.state.store.terms graph) ≡ true
  pub triples : List Triple
  pub reads : page_in page ≡ some triples
