-- Document 01, "Refusals": load, run and page, their refusals in order, and every result outright; then the calls of document 02.
use Rattle.std.specs.Prelude.{ℕ, List, [], ◌∷◌, ◌++◌, map, Bool, false, ◌&&◌, eqb, leb, length, get_or, drop, ℤ, Ok, Err}
use Rattle.std.proofs.Math.Option.{Option, none, some}
use Rattle.std.proofs.Math.ListN.{get_elem?}
use Rattle.definitions.specs.Limits.{term_limit, entry_limit, script_limit, budget_limit, page_limit, ranks_width, term_table_width, quad_table_width, schema_width}
use Rattle.definitions.specs.Lists.{distinct, is_in}
use Rattle.definitions.specs.Alphabet.{is_alphabet}
use Rattle.definitions.specs.Bytes.{same_bytes, provided, onward}
use Rattle.definitions.specs.Types.{Ty, type_code}
use Rattle.definitions.specs.Terms.{Term, Schema, Triple, Sort, sort_of, same_term, same_property, is_date_time, schema_records, read_terms, read_schema, read_page}
use Rattle.definitions.specs.Gathering.{Gathered, gathered}
use Rattle.definitions.specs.Tree.{Script}
use Rattle.definitions.specs.Reading.{parsed}
use Rattle.definitions.specs.Scope.{in_scope}
use Rattle.definitions.specs.Total.{total_of}
use Rattle.definitions.specs.Numerals.{numeral_of, term_of}
use Rattle.definitions.specs.Typing.{Written, unbound, undecided, fixed, written_types, type_at, Verdict, no_typing, no_greatest, greatest, verdict}
use Rattle.definitions.specs.Suggest.{Suggestion, suggestion}
use Rattle.definitions.specs.Outcome as Outcomes
use Rattle.definitions.specs.Outcome.{Outcome, ok}
use Rattle.definitions.specs.Machine.{Store, State, Run, run, last_of, loaded, with_properties, Taken, taken, with_page, in_limits}
use Rattle.definitions.specs.Publish.{published}
use Rattle.definitions.specs.Saved.{term_table, quad_table, held, saved_of, no_run}
use Rattle.definitions.specs.Evaluate.{Setting, is_uri}
use Rattle.definitions.specs.Sound.{state_sound}
use Rattle.definitions.specs.Result.{Result, refused, passed, OrRefusal, ◌>>=◌, ◌>>◌, require, given}
use Rattle.definitions.specs.declared.Refusal.TheVariants.{WrongLength, BadTerm, TermTwice, BadEntry, PropertyTwice, BadScript, OutOfScope, NoTyping, NoGreatest, Unsound, BadRun, NoGraph, BadPage, NoRoom, BadNumberText, NoSuchNumber, TooManyEntries, BadRanks, NotFetched, ShortBuffer}
use Rattle.definitions.specs.declared.Suggested.{Suggested}
use Rattle.definitions.specs.declared.Suggested.TheVariants as Suggests
use Rattle.definitions.specs.declared.SchemaCounts.{SchemaCounts}
use Rattle.definitions.specs.declared.SavedRun.{SavedRun}
use Rattle.definitions.specs.declared.Loaded.{Loaded}
use Rattle.definitions.specs.declared.Ran.{Ran}
use Rattle.definitions.specs.declared.Paged.{Paged}

-- ── terms, schema and script: 2 to 9 ────────────────────────────────────────────────────────

-- the terms listed, and the schema
pub record Listed : Type 0 where
  pub terms : List Term
  pub schema : Schema

-- 2 to 5
unfoldable pub record_tests : (terms schema : List ℕ) → Result Listed
record_tests terms schema = do
  listed ← given BadTerm (read_terms terms)
  require TermTwice (distinct same_term listed)
  S ← given BadEntry (read_schema schema)
  require PropertyTwice (distinct same_property S)
  passed (record { terms = listed; schema = S })

-- a limit passed on terms, entries or script bytes
unfoldable pub sizes_fit : List Term → Schema → (script : List ℕ) → Bool
sizes_fit terms S script = leb (length terms) term_limit && (leb (length S) entry_limit && leb (length script) script_limit)

-- 6 and 7, over the terms as loading numbers them
unfoldable pub script_tests : List Term → Schema → (script : List ℕ) → Result Script
script_tests terms S script = do
  require BadScript (sizes_fit terms S script)
  root ← given BadScript (parsed (length terms) script)
  require OutOfScope (in_scope root)
  passed root

-- what is ready to be typed: the schema, the terms as loading numbers them, and the script
pub record Parsed : Type 0 where
  pub schema : Schema
  pub terms : List Term
  pub root : Script

-- 2 to 7
unfoldable pub read_tests : (terms schema script : List ℕ) → Result Parsed
read_tests terms schema script = do
  l ← record_tests terms schema
  let numbered = with_properties l.schema l.terms
  root ← script_tests numbered l.schema script
  passed (record { schema = l.schema; terms = numbered; root = root })

-- what is found where nothing is refused: the schema, the terms as loading numbers them, the script and the types worked out
pub record Checked : Type 0 where
  pub schema : Schema
  pub terms : List Term
  pub root : Script
  pub types : List Ty

-- the sort of a term by its number
unfoldable pub constants_of : Schema → List Term → ℕ → Sort
constants_of S terms c = get_or (map (sort_of S) terms) c (Sort.uri none)

unfoldable pub types_of : Verdict → Result (List Ty)
types_of no_typing = refused NoTyping
types_of no_greatest = refused NoGreatest
types_of (greatest Γ) = passed Γ

-- 8 and 9
unfoldable pub type_tests : Parsed → Result Checked
type_tests x = do
  types ← types_of (verdict (constants_of x.schema x.terms) (written_types x.root) x.root)
  passed (record { schema = x.schema; terms = x.terms; root = x.root; types = types })

unfoldable pub check : (terms schema script : List ℕ) → Result Checked
check terms schema script = do
  x ← read_tests terms schema script
  type_tests x

-- the reported types by their codes, 0 for a variable that no pair binds
abbrev pub reported_type : Written → Ty → ℕ
reported_type unbound τ = 0
reported_type undecided τ = type_code τ
reported_type (fixed σ) τ = type_code τ

unfoldable pub reported_types : List Written → List Ty → List ℕ
reported_types [] Γ = []
reported_types (w ∷ ws) [] = []
reported_types (w ∷ ws) (τ ∷ Γ) = reported_type w τ ∷ reported_types ws Γ

abbrev pub reported : Checked → List ℕ
reported c = reported_types (written_types c.root) c.types

-- ── what is lent ────────────────────────────────────────────────────────────────────────────

-- ranks, terms, schema and script with the two tables, as bytes
pub record Lent : Type 0 where
  pub ranks : List ℕ
  pub terms : List ℕ
  pub schema : List ℕ
  pub script : List ℕ
  pub term_table : List ℕ
  pub quad_table : List ℕ

-- the lengths of ranks and tables
pub record Lengths : Type 0 where
  pub ranks : ℕ
  pub term_table : ℕ
  pub quad_table : ℕ

abbrev pub lengths_of : Lent → Lengths
lengths_of l = record { ranks = length l.ranks; term_table = length l.term_table; quad_table = length l.quad_table }

-- 1: a lent table of another length; ranks or a lent table
abbrev pub both_tables_fit : Lengths → Bool
both_tables_fit n = eqb n.term_table term_table_width && eqb n.quad_table quad_table_width

unfoldable pub tables_fit : Lengths → Bool
tables_fit n = eqb n.ranks ranks_width && both_tables_fit n

abbrev pub lengths_fit : Lent → Bool
lengths_fit l = tables_fit (lengths_of l)

-- ── load: 1, 21, 2 to 9 ─────────────────────────────────────────────────────────────────────

-- what the call returns, and both tables at its end
pub record LoadResult : Type 0 where
  pub returned : Loaded
  pub term_table : List ℕ
  pub quad_table : List ℕ

unfoldable pub load_tests : Lent → Result Checked
load_tests l = do
  require WrongLength (lengths_fit l)
  require BadRanks (is_alphabet l.ranks)
  check l.terms l.schema l.script

unfoldable pub load_result : Lent → Result Checked → LoadResult
load_result l (refused n) =
    record { returned = record { answer = Err n; saved = no_run }; term_table = l.term_table; quad_table = l.quad_table }
load_result l (passed c) =
    let s = loaded c.terms c.root in
    record {
      returned = record { answer = Ok tt; saved = saved_of (reported c) s };
      term_table = term_table s.store.terms;
      quad_table = quad_table s.store.quads;
    }

unfoldable pub load : Lent → LoadResult
load l = load_result l (load_tests l)

-- ── 10: saved run and tables unsound ────────────────────────────────────────────────────────

-- a sound state with what loading finds
pub record Sound : Type 0 where
  pub checked : Checked
  pub state : State

unfoldable pub checked_of : Result Checked → Option Checked
checked_of (refused n) = none
checked_of (passed c) = some c

-- the records load; reported types are those worked out; the tables and the saved run hold a state that is sound
unfoldable pub sound_in : Lent → SavedRun → Option Sound
sound_in l saved =
    onward (checked_of (check l.terms l.schema l.script)) (λ c.
    provided (same_bytes saved.control.types (reported c)) (onward (held c.root l.term_table l.quad_table saved) (λ s.
    provided (state_sound c.schema c.types c.terms c.root s) (some (record { checked = c; state = s })))))

-- what a call on a saved run begins with: 1, 21, 10
unfoldable pub entry_tests : Lent → SavedRun → Result Sound
entry_tests l saved = do
  require WrongLength (lengths_fit l)
  require BadRanks (is_alphabet l.ranks)
  given Unsound (sound_in l saved)

-- ── run: 1, 21, 10, 11 ──────────────────────────────────────────────────────────────────────

-- what a run's tuples are tried under
abbrev pub setting_of : Checked → (ranks : List ℕ) → (now : ℤ) → Setting
setting_of c ranks now = record { schema = c.schema; ranks = ranks; clock = now }

-- the machine's part of a run call
unfoldable pub run_in : Checked → (ranks : List ℕ) → (budget : ℕ) → (now : ℤ) → State → Result (Outcome Run)
run_in c ranks budget now s = do
  require BadRun (leb budget budget_limit && is_date_time now)
  passed (run (setting_of c ranks now) (type_at c.types) budget s)

-- where the machine runs: what loading finds, the state before, and the run
pub record Running : Type 0 where
  pub checked : Checked
  pub state : State
  pub run : Outcome Run

unfoldable pub run_tests : Lent → SavedRun → (budget : ℕ) → (now : ℤ) → Result Running
run_tests l saved budget now = do
  x ← entry_tests l saved
  r ← run_in x.checked l.ranks budget now x.state
  passed (record { checked = x.checked; state = x.state; run = r })

-- the steps taken and how the run ended, with the state after its last step
unfoldable pub ran_of : Checked → State → Run → Ran
ran_of c s r = record { answer = Ok (record { steps = length r.passed; state = r.ending }); saved = saved_of (reported c) (last_of s r.passed) }

unfoldable pub run_result : SavedRun → Result Running → Outcome Ran
run_result saved (refused n) = ok (record { answer = Err n; saved = saved })
run_result saved (passed x) = Outcomes.◌>>=◌ x.run (λ r. ok (ran_of x.checked x.state r))

-- The tables are only read. A fault of the machine is a fault here: that there is none is for the call to promise.
unfoldable pub run_call : Lent → SavedRun → (budget : ℕ) → (now : ℤ) → Outcome Ran
run_call l saved budget now = run_result saved (run_tests l saved budget now)

-- ── page: 1, 21, 10, 12, 13, 14 ─────────────────────────────────────────────────────────────

abbrev pub is_graph : Option Term → Bool
is_graph none = false
is_graph (some t) = is_uri t

-- over 65,536 bytes or a bad record in it: none
unfoldable pub page_in : List ℕ → Option (List Triple)
page_in page = provided (leb (length page) page_limit) (read_page page)

-- the skipped count and the state after the page
pub record PageTaken : Type 0 where
  pub skipped : ℕ
  pub state : State

abbrev pub page_taken : (graph : ℕ) → Taken → State → PageTaken
page_taken g k s = record { skipped = k.skipped; state = record { control = s.control; store = with_page g k s.store } }

-- the machine's part of a page call
unfoldable pub take_in : Checked → (graph : ℕ) → (page : List ℕ) → State → Result PageTaken
take_in c g page s = do
  require NoGraph (is_graph (get_elem? s.store.terms g))
  triples ← given BadPage (page_in page)
  let k = taken c.schema g triples s.store
  require NoRoom (in_limits (with_page g k s.store))
  passed (page_taken g k s)

pub record Taking : Type 0 where
  pub checked : Checked
  pub taken : PageTaken

unfoldable pub page_tests : Lent → SavedRun → (graph : ℕ) → (page : List ℕ) → Result Taking
page_tests l saved g page = do
  x ← entry_tests l saved
  k ← take_in x.checked g page x.state
  passed (record { checked = x.checked; taken = k })

pub record PageResult : Type 0 where
  pub returned : Paged
  pub term_table : List ℕ
  pub quad_table : List ℕ

unfoldable pub page_result : Lent → SavedRun → Result Taking → PageResult
page_result l saved (refused n) =
    record { returned = record { answer = Err n; saved = saved }; term_table = l.term_table; quad_table = l.quad_table }
page_result l saved (passed x) =
    let s = x.taken.state in
    record {
      returned = record { answer = Ok x.taken.skipped; saved = saved_of (reported x.checked) s };
      term_table = term_table s.store.terms;
      quad_table = quad_table s.store.quads;
    }

unfoldable pub page_call : Lent → SavedRun → (graph : ℕ) → (page : List ℕ) → PageResult
page_call l saved g page = page_result l saved (page_tests l saved g page)

-- ── total: 2 to 7, and at the C interface 1 for its report ──────────────────────────────────

unfoldable pub total_result : Result Parsed → OrRefusal ℕ
total_result (refused n) = Err n
total_result (passed x) = Ok (total_of x.root)

-- types are not asked
unfoldable pub total : (terms schema script : List ℕ) → OrRefusal ℕ
total terms schema script = total_result (read_tests terms schema script)

-- ── number: 16, 17, and at the C interface 1 for its record ─────────────────────────────────

-- the term that a text reads as
unfoldable pub number_call : (text : List ℕ) → Result Term
number_call text = do
  n ← given BadNumberText (numeral_of text)
  given NoSuchNumber (term_of n)

-- ── suggest: 2 to 8, and at the C interface 1 for its report ────────────────────────────────

unfoldable pub suggest_answer : Option Suggestion → OrRefusal Suggested
suggest_answer none = Ok Suggests.NoSingle
suggest_answer (some w) = Ok (Suggests.Named w.variable (type_code w.type))

-- in the place of refusal 9 the type to write
unfoldable pub suggest_for : (constants : ℕ → Sort) → List Written → Script → OrRefusal Suggested
suggest_for constants ws s =
    elim (verdict constants ws s) [
      | no_typing ↦ Err NoTyping
      | no_greatest ↦ suggest_answer (suggestion constants ws s)
      | greatest Γ ↦ Ok Suggests.Accepted
    ]

unfoldable pub suggest_result : Result Parsed → OrRefusal Suggested
suggest_result (refused n) = Err n
suggest_result (passed x) = suggest_for (constants_of x.schema x.terms) (written_types x.root) x.root

unfoldable pub suggest : (terms schema script : List ℕ) → OrRefusal Suggested
suggest terms schema script = suggest_result (read_tests terms schema script)

-- ── schema: 1, 13, 19 ───────────────────────────────────────────────────────────────────────

-- `schema` is the lent buffer
unfoldable pub schema_tests : (page schema : List ℕ) → Result Gathered
schema_tests page schema = do
  require WrongLength (eqb (length schema) schema_width)
  triples ← given BadPage (page_in page)
  let g = gathered triples
  require TooManyEntries (leb (length g.entries) entry_limit)
  passed g

-- records at the front of a buffer, the rest untouched
unfoldable pub written : Schema → (schema : List ℕ) → List ℕ
written S schema = let front = schema_records S in front ++ drop (length front) schema

-- what the call returns, and the buffer at its end
pub record SchemaResult : Type 0 where
  pub answer : OrRefusal SchemaCounts
  pub schema : List ℕ

unfoldable pub schema_result : (schema : List ℕ) → Result Gathered → SchemaResult
schema_result schema (refused n) = record { answer = Err n; schema = schema }
schema_result schema (passed g) =
    record { answer = Ok (record { entries = length g.entries; left_out = g.left_out }); schema = written g.entries schema }

unfoldable pub schema_call : (page schema : List ℕ) → SchemaResult
schema_call page schema = schema_result schema (schema_tests page schema)

-- ── publish: 1, 10, 22, 23 ──────────────────────────────────────────────────────────────────

-- the page of a fetched graph, for a buffer with room for so many bytes
unfoldable pub publish_in : (graph room : ℕ) → Store → Result (List ℕ)
publish_in g room s = do
  require NotFetched (is_in g s.fetched)
  require ShortBuffer (leb (length (published g s)) room)
  passed (published g s)

-- it is lent no ranks: those that stand here are not looked at
unfoldable pub publish_tests : Lent → SavedRun → (graph room : ℕ) → Result (List ℕ)
publish_tests l saved g room = do
  require WrongLength (both_tables_fit (lengths_of l))
  x ← given Unsound (sound_in l saved)
  publish_in g room x.state.store

-- what the call returns, and the buffer at its end; tables and saved run are only read
pub record PublishResult : Type 0 where
  pub returned : OrRefusal ℕ
  pub page : List ℕ

-- the page stands first, and the rest of the buffer is untouched
unfoldable pub publish_result : (buffer : List ℕ) → Result (List ℕ) → PublishResult
publish_result buffer (refused n) = record { returned = Err n; page = buffer }
publish_result buffer (passed page) =
    record { returned = Ok (length page); page = page ++ drop (length page) buffer }

unfoldable pub publish_call : Lent → SavedRun → (graph : ℕ) → (buffer : List ℕ) → PublishResult
publish_call l saved g buffer = publish_result buffer (publish_tests l saved g (length buffer))
