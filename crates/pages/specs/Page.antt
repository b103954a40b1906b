-- What the tables hold while a page is taken in.
use Rattle.std.specs.Prelude.{ℕ, ◌≤◌, true, List, ◌≡◌, length}
use Rattle.std.proofs.Math.Option.{some}
use Rattle.definitions.specs.Limits.{term_limit, term_table_width, quad_limit}
use Rattle.definitions.specs.Types.{Datatype}
use Rattle.definitions.specs.Terms.{Term, Schema, Triple, body_width, term_of_body, of_term_kind, read_schema, read_page}
use Rattle.definitions.specs.Evaluate.{Quad}
use Rattle.definitions.specs.Machine.{Numbered, numbered, Taken, in_order}
use Rattle.definitions.specs.Saved.{quad_table}
use Rattle.laws.specs.Lists.{All}
use Rattle.laws.specs.Quads.{Small}
use Rattle.laws.specs.Records.{TripleAt}
use Rattle.ordering.specs.Sets.{Gathered}
use Rattle.table.specs.Hashes.{Hashed, HashedEntries}
use Rattle.table.specs.Table.{HeldTerms}
use Rattle.records.specs.declared.Joined.{Joined}
use Rattle.pages.specs.declared.Numbers.{Numbers}
use Rattle.pages.specs.declared.Counts.{Counts}

-- ── terms ───────────────────────────────────────────────────────────────────────────────────

-- a table of n terms
abbrev pub Held : (table : List ℕ) → ℕ → Type 0
Held table n = (ts : List Term) × HeldTerms table n ts

-- the hashes of a table's n slots, where there is room for so many
pub record HeldHashes (table : List ℕ) (n : ℕ) (hashes : List ℕ) : Type 0 where
  pub room : length hashes ≡ term_limit
  pub each : n ≤ term_limit → Hashed table n hashes

-- a body of a kind says a term
pub record BodyIs (k : ℕ) (body : List ℕ) (t : Term) : Type 0 where
  pub datatype : Datatype
  pub kind : of_term_kind k ≡ some datatype
  pub width : length body ≡ body_width datatype
  pub says : term_of_body datatype body ≡ some t

abbrev pub Says : ℕ → List ℕ → Type 0
Says k body = (t : Term) × BodyIs k body t

-- a term has its number; the table holds it too, where there is room
pub record Joins (ts : List Term) (t : Term) (r : Joined) (table : List ℕ) : Type 0 where
  pub is : r.number ≡ (numbered t ts).number
  pub count : r.terms ≡ length (numbered t ts).terms
  pub width : length table ≡ term_table_width
  pub held : r.terms ≤ term_limit → HeldTerms table r.terms (numbered t ts).terms

-- ── a record's terms ────────────────────────────────────────────────────────────────────────

-- subject before object
abbrev pub subject_in : List Term → Triple → Numbered
subject_in ts x = numbered (Term.uri x.subject) ts

abbrev pub property_in : List Term → Triple → Numbered
property_in ts x = numbered (Term.uri x.property) (subject_in ts x).terms

abbrev pub object_in : List Term → Triple → Numbered
object_in ts x = numbered x.object (property_in ts x).terms

-- where there was room for all
pub record Numbered3 (ts : List Term) (x : Triple) (r : Numbers) (table : List ℕ) : Type 0 where
  pub subject : r.subject ≡ (subject_in ts x).number
  pub property : r.property ≡ (property_in ts x).number
  pub object : r.object ≡ (object_in ts x).number
  pub terms : HeldTerms table r.terms (object_in ts x).terms

pub record Numbering (ts : List Term) (x : Triple) (r : Numbers) (table : List ℕ) : Type 0 where
  pub at_most : r.terms ≤ length (object_in ts x).terms
  pub width : length table ≡ term_table_width
  pub held : r.terms ≤ term_limit → Numbered3 ts x r table

-- ── what is read ────────────────────────────────────────────────────────────────────────────

abbrev pub RecordAt : List ℕ → (at next : ℕ) → Type 0
RecordAt page at next = (x : Triple) × TripleAt page at x next

abbrev pub PageReads : List ℕ → Type 0
PageReads page = (rs : List Triple) × (read_page page ≡ some rs)

-- a good schema, with the hashes of its URIs
abbrev pub Reads : (schema entries : List ℕ) → Type 0
Reads schema entries = (S : Schema) × (read_schema schema ≡ some S) × HashedEntries schema entries

-- ── quads ───────────────────────────────────────────────────────────────────────────────────

-- a table of n quads, in their order
pub record HeldQuads (table : List ℕ) (n : ℕ) (qs : List Quad) : Type 0 where
  pub is : table ≡ quad_table qs
  pub small : All Small qs
  pub order : in_order qs ≡ true
  pub count : length qs ≡ n
  pub few : n ≤ quad_limit

abbrev pub HeldSome : (table : List ℕ) → ℕ → Type 0
HeldSome table n = (qs : List Quad) × HeldQuads table n qs

-- ── the page so far ─────────────────────────────────────────────────────────────────────────

-- the term table, the keys that the page puts in beside the quads of other graphs, and the skipped count
pub record HeldTaken (term_bytes keys : List ℕ) (others : List Quad) (c : Counts) (k : Taken) : Type 0 where
  pub terms : HeldTerms term_bytes c.terms k.terms
  pub quads : Gathered others keys c.keys k.quads
  pub skipped : c.skipped ≡ k.skipped

abbrev pub HeldBoth : (term_bytes keys : List ℕ) → Counts → Type 0
HeldBoth term_bytes keys c = (others : List Quad) × (k : Taken) × HeldTaken term_bytes keys others c k

-- held where there was room for all terms; else their limit is passed
pub record Took (term_bytes keys : List ℕ) (others : List Quad) (c : Counts) (k : Taken) : Type 0 where
  pub terms_at_most : c.terms ≤ length k.terms
  pub term_width : length term_bytes ≡ term_table_width
  pub held : c.terms ≤ term_limit → HeldTaken term_bytes keys others c k
