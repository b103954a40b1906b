-- Document 02, Ask 11: publish a graph.
--
--   Write a fetched graph as a page in a lent buffer: its triples as records in rising order of their bytes, each once, the length reported, the rest of the buffer
--   untouched. Taking that page in at once for the same graph, if it has at most 65,536 bytes, skips nothing and leaves the store as it was; a graph filled by a page
--   call always fits. Two stations that hold the same triples of a graph write the same bytes, however their terms are numbered.
--
-- The calls are `Calls.publishCall` and `Calls.pageCall`; a call that publishes n bytes has its page in the first n bytes of the buffer.
use Rattle.std.specs.Prelude.{Ok}
use Rattle.std.specs.Prelude.{ℕ, ◌≤◌, ◌<◌, ◌≡◌, List, ◌↔◌, T, length, take}
use Rattle.std.proofs.Math.Option.{some}
use Rattle.definitions.specs.Alphabet.{is_alphabet}
use Rattle.definitions.specs.Bytes.{byte}
use Rattle.definitions.specs.Limits.{page_limit}
use Rattle.definitions.specs.Terms.{Triple, read_page}
use Rattle.definitions.specs.Publish.{triples_of}
use Rattle.definitions.specs.Calls.{Lent, lengths_fit, Sound, sound_in, PageResult, page_call, publish_call}
use Rattle.definitions.specs.declared.SavedRun.{SavedRun}
use Rattle.laws.specs.Lists.{◌∈◌}

-- what a call that publishes n bytes has written
abbrev pub Publishes : Lent → SavedRun → (graph : ℕ) → (buffer : List ℕ) → ℕ → Type 0
Publishes l saved g buffer n = (publish_call l saved g buffer).returned ≡ Ok n

abbrev pub written_page : Lent → SavedRun → (graph : ℕ) → (buffer : List ℕ) → ℕ → List ℕ
written_page l saved g buffer n = take n (publish_call l saved g buffer).page

-- both tables are bytes
pub record TablesOfBytes (l : Lent) : Type 0 where
  pub terms : (i : ℕ) → byte l.term_table i < 256
  pub quads : (i : ℕ) → byte l.quad_table i < 256

-- ── taken in again ──────────────────────────────────────────────────────────────────────────

-- a page call that skips nothing, and leaves both tables and the fetched list byte for byte, with the count of quads
pub record AsItWas (l : Lent) (saved : SavedRun) (r : PageResult) : Type 0 where
  pub skips : r.returned.answer ≡ Ok 0
  pub term_table : r.term_table ≡ l.term_table
  pub quad_table : r.quad_table ≡ l.quad_table
  pub quads : r.returned.saved.store.quads ≡ saved.store.quads
  pub fetched : take r.returned.saved.store.graphs r.returned.saved.store.fetched ≡ take saved.store.graphs saved.store.fetched

-- a page call is lent ranks too
abbrev pub TakenAgain : Type 0
TakenAgain = (l : Lent) (saved : SavedRun) (g : ℕ) (buffer : List ℕ) (n : ℕ) → Publishes l saved g buffer n → n ≤ page_limit
    → T (lengths_fit l) → T (is_alphabet l.ranks) → TablesOfBytes l → AsItWas l saved (page_call l saved g (written_page l saved g buffer n))

-- ── it fits ─────────────────────────────────────────────────────────────────────────────────

-- what a page call leaves, lent again
abbrev pub lent_after : Lent → PageResult → Lent
lent_after l r = record { ranks = l.ranks; terms = l.terms; schema = l.schema; script = l.script; term_table = r.term_table; quad_table = r.quad_table }

-- a graph filled by a page call publishes into no more bytes than that page had
abbrev pub AlwaysFits : Type 0
AlwaysFits = (l : Lent) (saved : SavedRun) (g : ℕ) (page : List ℕ) (skipped : ℕ) → (page_call l saved g page).returned.answer ≡ Ok skipped
    → (buffer : List ℕ) → length page ≤ length buffer
    → let r = page_call l saved g page in
    (n : ℕ) × Publishes (lent_after l r) r.returned.saved g buffer n × (n ≤ length page)

-- ── the same bytes ──────────────────────────────────────────────────────────────────────────

-- two calls, of whatever cards, on graphs that hold the same triples
abbrev pub SameBytes : Type 0
SameBytes = (l m : Lent) (saved other : SavedRun) (g h : ℕ) (buffer room : List ℕ) (n k : ℕ) → Publishes l saved g buffer n → Publishes m other h room k
    → (x y : Sound) → sound_in l saved ≡ some x → sound_in m other ≡ some y
    → ((r : Triple) → (r ∈ triples_of g x.state.store) ↔ (r ∈ triples_of h y.state.store))
    → written_page l saved g buffer n ≡ written_page m other h room k

-- ── what it says ────────────────────────────────────────────────────────────────────────────

-- the page is read as the graph's triples
abbrev pub SaysTriples : Type 0
SaysTriples = (l : Lent) (saved : SavedRun) (g : ℕ) (buffer : List ℕ) (n : ℕ) → Publishes l saved g buffer n → (x : Sound) → sound_in l saved ≡ some x
    → (rs : List Triple) × (read_page (written_page l saved g buffer n) ≡ some rs) × ((r : Triple) → (r ∈ rs) ↔ (r ∈ triples_of g x.state.store))

pub record Publishing : Type 0 where
  pub says : SaysTriples
  pub again : TakenAgain
  pub fits : AlwaysFits
  pub same : SameBytes
