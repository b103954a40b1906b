-- The store's half of soundness: the definition's clauses as tests on numbers, as the code makes them.
use Rattle.std.specs.Prelude.{ℕ, List, ◌≡◌, Bool, true, false, ◌&&◌, eqb, leb, take}
use Rattle.std.proofs.Math.Option.{Option, none, some}
use Rattle.definitions.specs.Limits.{graph_limit}
use Rattle.definitions.specs.Lists.{every, distinct}
use Rattle.definitions.specs.Terms.{Term, same_term}
use Rattle.definitions.specs.Evaluate.{Quad}
use Rattle.definitions.specs.Machine.{in_order}
use Rattle.definitions.specs.Saved.{quads_from, quads_in}
use Rattle.definitions.specs.Sound.{begins_with}
use Rattle.definitions.specs.declared.SavedStore.{SavedStore}
use Rattle.laws.specs.ReadAnswers.{is_some}
use Rattle.keys.specs.Keys.{keys_from, rows_from, rising}
use Rattle.fields.specs.Answers.{distinct_in}
use Rattle.sound_quads.specs.TermNumbers.{uri_number, quad_numbers}

-- ── terms that tables hold ──────────────────────────────────────────────────────────────────

unfoldable pub begins_in : (loaded terms : Option (List Term)) → Bool
begins_in none ts = false
begins_in (some ks) none = false
begins_in (some ks) (some ts) = begins_with ks ts

-- different, and beginning as loading numbers them
unfoldable pub terms_sound : (loaded terms : Option (List Term)) → Bool
terms_sound ks ts = begins_in ks ts && distinct_in same_term ts

-- ── the tests together, in the order of the code ────────────────────────────────────────────

-- the table holds so many quads; the fetched graphs are different URIs; the quads stand in order, and each is sound
unfoldable pub quads_test : (quad_table : List ℕ) → (n : ℕ) → (fetched leasts : List ℕ) → (count : ℕ) → Bool
quads_test table n fetched leasts count =
    is_some (quads_in n table)
    && ((distinct eqb fetched && every (uri_number leasts count) fetched)
    && (in_order (quads_from n table 0) && every (quad_numbers leasts count fetched) (quads_from n table 0)))

-- and the fetched list is within its limit
unfoldable pub store_test : (quad_table : List ℕ) → SavedStore → (leasts : List ℕ) → (count : ℕ) → Bool
store_test table saved leasts count =
    leb saved.graphs graph_limit && quads_test table saved.quads (take saved.graphs saved.fetched) leasts count

-- the first keys are those of quads, and rise
pub record InOrder (n : ℕ) (keys : List ℕ) (quads : List Quad) : Type 0 where
  pub rows : rows_from n keys 0 ≡ quads
  pub rises : rising (keys_from n keys 0) ≡ true
