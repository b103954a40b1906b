-- The calls on bytes, as other programs link them: saved run and report, or a record, are lent as bytes too, and count as lent tables.
use Rattle.std.specs.Prelude.{ℕ, zero, suc, ◌+◌, List, [], ◌∷◌, ◌++◌, map, Bool, true, false, ◌&&◌, eqb, leb, ℤ, length, Ok, Err}
use Rattle.std.proofs.Math.Option.{Option, none, some}
use Rattle.definitions.specs.Limits.{variable_limit, graph_limit, depth_limit, pair_limit}
use Rattle.definitions.specs.Limits.{types_offset, bound_offset, bindings_offset, fetched_offset, items_offset, item_width, saved_width}
use Rattle.definitions.specs.Limits.{run_report_width, page_report_width, total_report_width, number_record_width, suggest_report_width, schema_report_width, publish_report_width}
use Rattle.definitions.specs.Lists.{every}
use Rattle.definitions.specs.Alphabet.{is_alphabet}
use Rattle.definitions.specs.Bytes.{byte, word, little_bytes, part, provided}
use Rattle.definitions.specs.Terms.{Term, record_of}
use Rattle.definitions.specs.Outcome.{Outcome, ok, ◌>>=◌}
use Rattle.definitions.specs.Result.{Result, refused, passed, OrRefusal}
use Rattle.definitions.specs.Saved.{zero_item}
use Rattle.definitions.specs.Calls.{Lent, lengths_fit, load, run_call, PageResult, page_call, total, number_call, suggest, schema_call, lengths_of, both_tables_fit, PublishResult, publish_call}
use Rattle.definitions.specs.Numbers.{answer_number, result_number, state_number, wanted_graph}
use Rattle.definitions.specs.declared.SavedItem.{SavedItem}
use Rattle.definitions.specs.declared.SavedRun.{SavedRun}
use Rattle.definitions.specs.declared.Ran.{Ran}
use Rattle.definitions.specs.declared.RunEnd.{RunEnd}
use Rattle.definitions.specs.declared.Suggested.{Suggested}
use Rattle.definitions.specs.declared.Suggested.TheVariants as Suggests
use Rattle.definitions.specs.declared.SchemaCounts.{SchemaCounts}

-- ── the saved run as bytes ────────────────────────────────────────────────────────────────

abbrev pub mark_of : Bool → ℕ
mark_of false = 0
mark_of true = 1

unfoldable pub words : List ℕ → List ℕ
words [] = []
words (n ∷ ns) = little_bytes 2 n ++ words ns

-- offset of the record, 1 if it has a last tuple, zero, the last tuple
abbrev pub item_bytes : SavedItem → List ℕ
item_bytes i = little_bytes 2 i.«at» ++ (mark_of i.started ∷ 0 ∷ words i.last)

unfoldable pub items_bytes : List SavedItem → List ℕ
items_bytes [] = []
items_bytes (i ∷ is) = item_bytes i ++ items_bytes is

unfoldable pub saved_bytes : SavedRun → List ℕ
saved_bytes r =
    let c = r.control in
    let s = r.store in
    words (c.height ∷ s.quads ∷ s.graphs ∷ [])
    ++ (c.types ++ (map mark_of c.bound ++ (words c.bindings ++ (words s.fetched ++ items_bytes c.items))))

-- ── and back ────────────────────────────────────────────────────────────────────────────────

-- so many 2-byte numbers from an offset on
unfoldable pub words_from : (count : ℕ) → List ℕ → ℕ → List ℕ
words_from zero b at = []
words_from (suc n) b at = word b at ∷ words_from n b (at + 2)

abbrev pub item_at : List ℕ → ℕ → SavedItem
item_at b at = record { «at» = word b at; started = eqb (byte b (at + 2)) 1; last = words_from pair_limit b (at + 4) }

-- the items in use; the places above the height are not looked at
unfoldable pub items_from : (left height : ℕ) → List ℕ → ℕ → List SavedItem
items_from zero height b at = []
items_from (suc left) zero b at = zero_item ∷ items_from left zero b (at + item_width)
items_from (suc left) (suc n) b at = item_at b at ∷ items_from left n b (at + item_width)

-- a mark is 0 or 1, and the byte after an item's mark is zero, in each item in use
unfoldable pub items_good : (height : ℕ) → List ℕ → ℕ → Bool
items_good zero b at = true
items_good (suc n) b at = leb (byte b (at + 2)) 1 && (eqb (byte b (at + 3)) 0 && items_good n b (at + item_width))

-- the saved run that bytes hold; none where no saved run has these bytes
unfoldable pub saved_from : List ℕ → Option SavedRun
saved_from b =
    let height = word b 0 in
    provided (leb height depth_limit && (every (λ m. leb m 1) (part b bound_offset variable_limit) && items_good height b items_offset))
    (some (record {
      control = record {
        height = height;
        types = part b types_offset variable_limit;
        bound = map (eqb 1) (part b bound_offset variable_limit);
        bindings = words_from variable_limit b bindings_offset;
        items = items_from depth_limit height b items_offset;
      };
      store = record { quads = word b 2; graphs = word b 4; fetched = words_from graph_limit b fetched_offset };
    }))

-- ── reports ─────────────────────────────────────────────────────────────────────────────────

-- steps taken, state, zero, the wanted graph's term number or zero; a refused call leaves the report as it was
unfoldable pub run_report : List ℕ → OrRefusal RunEnd → List ℕ
run_report report (Ok e) = little_bytes 4 e.steps ++ (state_number e.state ∷ 0 ∷ little_bytes 2 (wanted_graph e.state))
run_report report (Err r) = report

-- a count: of triples skipped, of steps in all, of a page's bytes
unfoldable pub count_report : List ℕ → OrRefusal ℕ → List ℕ
count_report report (Ok n) = little_bytes 4 n
count_report report (Err r) = report

-- the record of the term that a text reads as
unfoldable pub record_after : List ℕ → Result Term → List ℕ
record_after lent (refused n) = lent
record_after lent (passed t) = record_of t

-- 0 accepted as it is, 1 a type is named, 2 no single one would do; the variable and the code, both zero unless one is named; zero
abbrev pub suggested_bytes : Suggested → List ℕ
suggested_bytes Suggests.Accepted = 0 ∷ 0 ∷ 0 ∷ 0 ∷ []
suggested_bytes (Suggests.Named x code) = 1 ∷ x ∷ code ∷ 0 ∷ []
suggested_bytes Suggests.NoSingle = 2 ∷ 0 ∷ 0 ∷ 0 ∷ []

unfoldable pub suggest_report : List ℕ → OrRefusal Suggested → List ℕ
suggest_report report (Ok s) = suggested_bytes s
suggest_report report (Err r) = report

-- the number of entries, the number of subjects left out
unfoldable pub schema_report : List ℕ → OrRefusal SchemaCounts → List ℕ
schema_report report (Ok g) = little_bytes 4 g.entries ++ little_bytes 4 g.left_out
schema_report report (Err r) = report

-- ── the calls: the number returned, and every lent buffer at the end ────────────────────────

pub record LoadExport : Type 0 where
  pub number : ℕ
  pub term_table : List ℕ
  pub quad_table : List ℕ
  pub saved : List ℕ

pub record RunExport : Type 0 where
  pub number : ℕ
  pub saved : List ℕ
  pub report : List ℕ

pub record PageExport : Type 0 where
  pub number : ℕ
  pub term_table : List ℕ
  pub quad_table : List ℕ
  pub saved : List ℕ
  pub report : List ℕ

pub record TotalExport : Type 0 where
  pub number : ℕ
  pub report : List ℕ

pub record NumberExport : Type 0 where
  pub number : ℕ
  pub «record» : List ℕ

pub record SuggestExport : Type 0 where
  pub number : ℕ
  pub report : List ℕ

pub record SchemaExport : Type 0 where
  pub number : ℕ
  pub schema : List ℕ
  pub report : List ℕ

pub record PublishExport : Type 0 where
  pub number : ℕ
  pub page : List ℕ
  pub report : List ℕ

-- the saved run's bytes where nothing was refused, else those that were lent
abbrev pub saved_after : (number : ℕ) → SavedRun → (lent : List ℕ) → List ℕ
saved_after zero r lent = saved_bytes r
saved_after (suc n) r lent = lent

unfoldable pub load_export : Lent → (saved : List ℕ) → LoadExport
load_export l saved =
    let r = load l in
    let n = answer_number r.returned.answer in
    elim (eqb (length saved) saved_width) [
      | true ↦ record { number = n; term_table = r.term_table; quad_table = r.quad_table; saved = saved_after n r.returned.saved saved }
      | false ↦ record { number = 1; term_table = l.term_table; quad_table = l.quad_table; saved = saved }
    ]

abbrev pub refused_run : ℕ → (saved report : List ℕ) → RunExport
refused_run n saved report = record { number = n; saved = saved; report = report }

abbrev pub ran_export : (saved report : List ℕ) → Ran → RunExport
ran_export saved report r =
    let n = answer_number r.answer in
    record { number = n; saved = saved_after n r.saved saved; report = run_report report r.answer }

-- bytes that no saved run has are unsound
abbrev pub run_on : Lent → (budget : ℕ) → (now : ℤ) → (saved report : List ℕ) → Option SavedRun → Outcome RunExport
run_on l budget now saved report none = ok (refused_run 10 saved report)
run_on l budget now saved report (some r) = run_call l r budget now >>= λ x. ok (ran_export saved report x)

unfoldable pub run_export : Lent → (saved : List ℕ) → (budget : ℕ) → (now : ℤ) → (report : List ℕ) → Outcome RunExport
run_export l saved budget now report =
    elim (lengths_fit l && (eqb (length saved) saved_width && eqb (length report) run_report_width)) [
      | true ↦ elim (is_alphabet l.ranks) [
        | true ↦ run_on l budget now saved report (saved_from saved)
        | false ↦ ok (refused_run 21 saved report)
      ]
      | false ↦ ok (refused_run 1 saved report)
    ]

abbrev pub refused_page : ℕ → Lent → (saved report : List ℕ) → PageExport
refused_page n l saved report = record { number = n; term_table = l.term_table; quad_table = l.quad_table; saved = saved; report = report }

abbrev pub paged_export : (saved report : List ℕ) → PageResult → PageExport
paged_export saved report r =
    let n = answer_number r.returned.answer in
    record {
      number = n;
      term_table = r.term_table;
      quad_table = r.quad_table;
      saved = saved_after n r.returned.saved saved;
      report = count_report report r.returned.answer;
    }

abbrev pub page_on : Lent → (graph : ℕ) → (page : List ℕ) → (saved report : List ℕ) → Option SavedRun → PageExport
page_on l g page saved report none = refused_page 10 l saved report
page_on l g page saved report (some r) = paged_export saved report (page_call l r g page)

unfoldable pub page_export : Lent → (saved : List ℕ) → (graph : ℕ) → (page : List ℕ) → (report : List ℕ) → PageExport
page_export l saved g page report =
    elim (lengths_fit l && (eqb (length saved) saved_width && eqb (length report) page_report_width)) [
      | true ↦ elim (is_alphabet l.ranks) [
        | true ↦ page_on l g page saved report (saved_from saved)
        | false ↦ refused_page 21 l saved report
      ]
      | false ↦ refused_page 1 l saved report
    ]

unfoldable pub total_export : (terms schema script report : List ℕ) → TotalExport
total_export terms schema script report =
    let answer = total terms schema script in
    elim (eqb (length report) total_report_width) [
      | true ↦ record { number = answer_number answer; report = count_report report answer }
      | false ↦ record { number = 1; report = report }
    ]

unfoldable pub number_export : (text lent : List ℕ) → NumberExport
number_export text lent =
    let r = number_call text in
    elim (eqb (length lent) number_record_width) [
      | true ↦ record { number = result_number r; «record» = record_after lent r }
      | false ↦ record { number = 1; «record» = lent }
    ]

unfoldable pub suggest_export : (terms schema script report : List ℕ) → SuggestExport
suggest_export terms schema script report =
    let answer = suggest terms schema script in
    elim (eqb (length report) suggest_report_width) [
      | true ↦ record { number = answer_number answer; report = suggest_report report answer }
      | false ↦ record { number = 1; report = report }
    ]

unfoldable pub schema_export : (page schema report : List ℕ) → SchemaExport
schema_export page schema report =
    let r = schema_call page schema in
    elim (eqb (length report) schema_report_width) [
      | true ↦ record { number = answer_number r.answer; schema = r.schema; report = schema_report report r.answer }
      | false ↦ record { number = 1; schema = schema; report = report }
    ]

abbrev pub refused_publish : ℕ → (page report : List ℕ) → PublishExport
refused_publish n page report = record { number = n; page = page; report = report }

abbrev pub published_export : (report : List ℕ) → PublishResult → PublishExport
published_export report r =
    record { number = answer_number r.returned; page = r.page; report = count_report report r.returned }

abbrev pub publish_on : Lent → (graph : ℕ) → (page report : List ℕ) → Option SavedRun → PublishExport
publish_on l g page report none = refused_publish 10 page report
publish_on l g page report (some r) = published_export report (publish_call l r g page)

-- it is lent no ranks: those that stand here are not looked at
unfoldable pub publish_export : Lent → (saved : List ℕ) → (graph : ℕ) → (page report : List ℕ) → PublishExport
publish_export l saved g page report =
    elim (both_tables_fit (lengths_of l) && (eqb (length saved) saved_width && eqb (length report) publish_report_width)) [
      | true ↦ publish_on l g page report (saved_from saved)
      | false ↦ refused_publish 1 page report
    ]
