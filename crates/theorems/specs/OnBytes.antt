-- Demand 3 at the C interface: a list of run and page calls on bytes after a load gives, call by call, what the calls of demand 3 give: the answer as number
-- and report, the tables, and the saved run as its bytes. Saved run and report count as lent tables: where tables, saved run or report have another length, a
-- call may be lent anything, answers 1 and leaves all of it as it was.
use Rattle.std.specs.Prelude.{ℕ, ◌≡◌, List, [], ◌∷◌, map, not, T, length, ℤ}
use Rattle.definitions.specs.Outcome.{Outcome, ok, ◌>>=◌}
use Rattle.definitions.specs.Saved.{no_run}
use Rattle.definitions.specs.Calls.{Lent, tables_fit, load}
use Rattle.definitions.specs.CallList.{Answer, ran, paged}
use Rattle.definitions.specs.Exports.{saved_bytes, run_report, count_report, load_export, run_export, page_export}
use Rattle.definitions.specs.Limits.{run_report_width, page_report_width}
use Rattle.theorems.specs.Hosts as Hosts
use Rattle.theorems.specs.Hosts.{Kept, kept_after_load, HostCall, Handed, number_of}
use Rattle.theorems.specs.Demand3.{Demand3}
use Rattle.theorems.specs.ExportRefusals.{buffers_fit}

-- ── the calls on bytes, one after the other ─────────────────────────────────────────────────

-- what a host keeps from call to call
pub record KeptBytes : Type 0 where
  pub saved : List ℕ
  pub term_table : List ℕ
  pub quad_table : List ℕ

abbrev pub bytes_of : Kept → KeptBytes
bytes_of k = record { saved = saved_bytes k.saved; term_table = k.term_table; quad_table = k.quad_table }

-- what is lent to a call whose report has a width: what the call before left, and a report; or others, of which some buffer has another length
pub data Lending (width : ℕ) : Type 0 where
  as_left : (report : List ℕ) → length report ≡ width → Lending width
  others : (l : Lent) → (saved report : List ℕ) → T (not (buffers_fit l saved report width)) → Lending width

pub data ExportCall : Type 0 where
  running : Lending run_report_width → (budget : ℕ) → (now : ℤ) → ExportCall
  paging : Lending page_report_width → (graph : ℕ) → (page : List ℕ) → ExportCall

-- what a call hands back: its number, and report, saved run and tables that it was lent, as it leaves them
pub record Exported : Type 0 where
  pub number : ℕ
  pub report : List ℕ
  pub left : KeptBytes

module _ {width : ℕ} where
  abbrev pub report_lent : Lending width → List ℕ
  report_lent (as_left report fits) = report
  report_lent (others l saved report wrong) = report

  abbrev pub lent_bytes : Lending width → KeptBytes → KeptBytes
  lent_bytes (as_left report fits) k = k
  lent_bytes (others l saved report wrong) k = record { saved = saved; term_table = l.term_table; quad_table = l.quad_table }

  -- the host's own saved run and tables after a call: those that it left, or as before where it was lent others
  abbrev pub bytes_after : Lending width → KeptBytes → Exported → KeptBytes
  bytes_after (as_left report fits) k e = e.left
  bytes_after (others l saved report wrong) k e = k

abbrev pub after : ExportCall → KeptBytes → Exported → KeptBytes
after (running t budget now) k e = bytes_after t k e
after (paging t g page) k e = bytes_after t k e

-- and after a list of them
unfoldable pub after_all : List ExportCall → KeptBytes → List Exported → KeptBytes
after_all [] k es = k
after_all (x ∷ xs) k [] = k
after_all (x ∷ xs) k (e ∷ es) = after_all xs (after x k e) es

-- what the load was lent gives ranks, terms, schema and script to every call
module _ (l : Lent) where
  abbrev pub lent_to : {width : ℕ} → Lending width → KeptBytes → Lent
  lent_to (as_left report fits) k = record { ranks = l.ranks; terms = l.terms; schema = l.schema; script = l.script; term_table = k.term_table; quad_table = k.quad_table }
  lent_to (others x saved report wrong) k = x

  -- a run call only reads the tables
  unfoldable pub export_call : ExportCall → KeptBytes → Outcome Exported
  export_call (running t budget now) k = do
    let b = lent_bytes t k
    r ← run_export (lent_to t k) b.saved budget now (report_lent t)
    ok (record { number = r.number; report = r.report; left = record { saved = r.saved; term_table = b.term_table; quad_table = b.quad_table } })
  export_call (paging t g page) k =
      let r = page_export (lent_to t k) (lent_bytes t k).saved g page (report_lent t) in
      ok (record { number = r.number; report = r.report; left = record { saved = r.saved; term_table = r.term_table; quad_table = r.quad_table } })

  unfoldable pub export_calls : List ExportCall → KeptBytes → Outcome (List Exported)
  export_calls [] k = ok []
  export_calls (x ∷ xs) k = do
    e ← export_call x k
    es ← export_calls xs (after x k e)
    ok (e ∷ es)

-- ── the same calls as demand 3 has them ─────────────────────────────────────────────────────

-- tables of no bytes: for the machine, a buffer of another length is a table of another length, whichever it is
unfoldable pub no_tables : Hosts.Lending
unfolding tables_fit
no_tables = Hosts.others (record { ranks = []; terms = []; schema = []; script = []; term_table = []; quad_table = [] }) no_run tt

abbrev pub lending_of : {width : ℕ} → Lending width → Hosts.Lending
lending_of (as_left report fits) = Hosts.as_left
lending_of (others l saved report wrong) = no_tables

abbrev pub call_of : ExportCall → HostCall
call_of (running t budget now) = HostCall.running (lending_of t) budget now
call_of (paging t g page) = HostCall.paging (lending_of t) g page

abbrev pub report_of : (report : List ℕ) → Answer → List ℕ
report_of report (ran a) = run_report report a
report_of report (paged a) = count_report report a

-- what a call of demand 3 hands back, as bytes; where some buffer has another length, number 1 and everything as it was lent
abbrev pub handed_bytes : {width : ℕ} → Lending width → Handed → Exported
handed_bytes (as_left report fits) h = record { number = number_of h.answer; report = report_of report h.answer; left = bytes_of h.left }
handed_bytes (others l saved report wrong) h =
    record { number = 1; report = report; left = record { saved = saved; term_table = l.term_table; quad_table = l.quad_table } }

abbrev pub exported : ExportCall → Handed → Exported
exported (running t budget now) h = handed_bytes t h
exported (paging t g page) h = handed_bytes t h

abbrev pub exported_all : List ExportCall → List Handed → List Exported
exported_all [] hs = []
exported_all (x ∷ xs) [] = []
exported_all (x ∷ xs) (h ∷ hs) = exported x h ∷ exported_all xs hs

pub record OnBytes (l : Lent) (saved : List ℕ) (calls : List ExportCall) : Type 0 where
  -- the load leaves the bytes of what demand 3's load leaves
  pub start : load_export l saved
      ≡ record { number = 0; term_table = (load l).term_table; quad_table = (load l).quad_table; saved = saved_bytes (load l).returned.saved }
  -- demand 3 holds of the list
  pub holds : Demand3 l (map call_of calls)
  -- and each call leaves the bytes of what demand 3's call hands back
  pub agree : export_calls l calls (bytes_of (kept_after_load l)) ≡ ok (exported_all calls holds.handed)
