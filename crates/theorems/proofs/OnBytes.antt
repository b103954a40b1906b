-- Demand 3 at the C interface, proved: what an export writes reads back as the saved run that the call handed back.
use Rattle.std.specs.Prelude.{Ok}
use Prim.Native.Nat.{ℕ, zero, suc}
use native.Mathlib.Omega.{arith}
use mathlib.Core.Path.{◌≡◌, refl, sym, ap, ◌∙◌}
use mathlib.Core.List.{List, [], ◌∷◌, map}
use mathlib.Core.Bool.{Bool, true, false}
use lib.ListN.{length}
use lib.IntN.{ℤ}
use borrow.Author.Tests.{eq-eqb}
use Rattle.definitions.specs.Outcome.{ok, ◌>>=◌}
use Rattle.definitions.specs.Machine.{State, last_of, loaded}
use Rattle.definitions.specs.Result.{passed}
use Rattle.definitions.specs.Alphabet.{is_alphabet}
use Rattle.definitions.specs.Calls.{Checked, Lent, lengths_fit, load, page_call}
use Rattle.definitions.specs.CallList.{ran}
use Rattle.definitions.specs.Numbers.{answer_number}
use Rattle.definitions.specs.Limits.{saved_width, run_report_width, page_report_width}
use Rattle.definitions.specs.Exports.{saved_bytes, saved_after, run_report, count_report, saved_from, run_on, page_on}
use Rattle.definitions.specs.Exports.{load_export, RunExport, refused_run, run_export, PageExport, refused_page, page_export}
use Rattle.definitions.specs.declared.SavedRun.{SavedRun}
use Rattle.laws.proofs.NoFault.{ok-is, fine-ok}
use Rattle.laws.proofs.Check.{check-accepted}
use Rattle.laws.specs.Valid.{ValidIn}
use Rattle.laws.proofs.Valid.{loaded-valid, check-valid}
use Rattle.laws.specs.Sound.{Accepted, Sound}
use Rattle.theorems.specs.Demand1.{first_broken}
use Rattle.theorems.proofs.Demand1.{demand-1}
use Rattle.safety.proofs.RunSound.{last-sound}
use Rattle.theorems.proofs.Safety.{loaded-sound, call-sound}
use Rattle.theorems.proofs.EngineSound.{Loads, handed_of, engine-call, call-valid}
use Rattle.theorems.specs.Hosts as Hosts
use Rattle.theorems.specs.Hosts.{Kept, HostCall, lending, fed, kept_of, kept_after, Handed, engine_call, engine_calls}
use Rattle.theorems.specs.ExportRefusals.{buffers_fit}
use Rattle.theorems.specs.OnBytes.{KeptBytes, bytes_of, Lending, as_left, others, ExportCall, running, paging, Exported, after, lent_to, export_call, export_calls}
use Rattle.theorems.specs.OnBytes.{no_tables, lending_of, call_of, handed_bytes, exported, exported_all, OnBytes}
use Rattle.theorems.proofs.ExportRefusals.{run-report-kept, page-report-kept, page-is}
use Rattle.theorems.proofs.Demand3.{engine-more, call-keeps, loads-with, demand-3}
use Rattle.theorems.proofs.RoundTrip.{Fits, saved-again, saved-length}
use Rattle.theorems.proofs.SavedFits.{sound-fits}
use Rattle.laws.proofs.Tests.{is_false}

-- ── the proof: one call ─────────────────────────────────────────────────────────────────────

-- a refused call hands back the saved run it was given
saved_after_lem : (n : ℕ) (x r : SavedRun) → ((n ≡ 0 → ⊥) → x ≡ r) → saved_after n x (saved_bytes r) ≡ saved_bytes x
saved_after_lem zero x r h = refl
saved_after_lem (suc n) x r h = ap saved_bytes (sym (h (λ e. omega (arith, e))))

-- some buffer has another length
module _ (x : Lent) (saved report : List ℕ) where
  run-others : (budget : ℕ) (now : ℤ) → buffers_fit x saved report run_report_width ≡ false → run_export x saved budget now report ≡ ok (refused_run 1 saved report)
  unfolding run_export
  run-others budget now e = rw (e, run_export) refl

  page-others : (g : ℕ) (page : List ℕ) → buffers_fit x saved report page_report_width ≡ false → page_export x saved g page report ≡ refused_page 1 x saved report
  unfolding page_export
  page-others g page e = rw (e, page_export) refl

  -- all have their lengths, and the ranks are an alphabet, or are none
  run_is : (budget : ℕ) (now : ℤ) → buffers_fit x saved report run_report_width ≡ true → is_alphabet x.ranks ≡ true
      → run_export x saved budget now report ≡ run_on x budget now saved report (saved_from saved)
  unfolding run_export
  run_is budget now e good = rw (e, good, run_export) refl

  run-ranks : (budget : ℕ) (now : ℤ) → buffers_fit x saved report run_report_width ≡ true → is_alphabet x.ranks ≡ false
      → run_export x saved budget now report ≡ ok (refused_run 21 saved report)
  unfolding run_export
  run-ranks budget now e bad = rw (e, bad, run_export) refl

  page-ranks : (g : ℕ) (page : List ℕ) → buffers_fit x saved report page_report_width ≡ true → is_alphabet x.ranks ≡ false
      → page_export x saved g page report ≡ refused_page 21 x saved report
  unfolding page_export
  page-ranks g page e bad = rw (e, bad, page_export) refl

module _ (l : Lent) (r : SavedRun) (f : Fits r) (report : List ℕ) where
  all_fit : (width : ℕ) → lengths_fit l ≡ true → length report ≡ width → buffers_fit l (saved_bytes r) report width ≡ true
  all_fit width fit w = rw (fit, eq-eqb (length (saved_bytes r)) saved_width (saved-length r f)) (eq-eqb (length report) width w)

  module _ (budget : ℕ) (now : ℤ) (w : length report ≡ run_report_width) where
    abbrev run-export : RunExport
    run-export =
        let x = (demand-1.run l r budget now).ran in
        record { number = answer_number x.answer; saved = saved_bytes x.saved; report = run_report report x.answer }

    -- refused with a number, everything is as it was
    run-refused : (n : ℕ) → (n ≡ 0 → ⊥) → answer_number (demand-1.run l r budget now).ran.answer ≡ n → ok (refused_run n (saved_bytes r) report) ≡ ok run-export
    run-refused n some e =
        let d = demand-1.run l r budget now in
        let refuses : answer_number d.ran.answer ≡ 0 → ⊥ = λ z. some (sym e ∙ z) in
        let s = d.keeps (λ z. refuses (d.number ∙ z)) in
        λ i. ok (record { number = sym e i; saved = saved_bytes (sym s i); report = sym (run-report-kept report d.ran.answer refuses) i })

    run_by : (b a : Bool) → lengths_fit l ≡ b → is_alphabet l.ranks ≡ a → run_export l (saved_bytes r) budget now report ≡ ok run-export
    unfolding run_export ◌>>=◌ first_broken
    run_by true true fit good =
        let d = demand-1.run l r budget now in
        let n = answer_number d.ran.answer in
        let k = saved_after_lem n d.ran.saved r (λ h. d.keeps (λ z. h (d.number ∙ z))) in
        run_is l (saved_bytes r) report budget now (all_fit run_report_width fit w) good
        ∙ (ap (run_on l budget now (saved_bytes r) report) (saved-again r f)
        ∙ rw d.given (λ i. ok (record { number = n; saved = k i; report = run_report report d.ran.answer })))
    run_by true false fit bad =
        let d = demand-1.run l r budget now in
        run-ranks l (saved_bytes r) report budget now (all_fit run_report_width fit w) bad ∙ run-refused 21 (λ z. omega (arith, z)) (d.number ∙ rw (fit, bad) refl)
    run_by false a fit good =
        let d = demand-1.run l r budget now in
        rw (run_export, fit) (run-refused 1 (λ z. omega (arith, z)) (d.number ∙ rw fit refl))

  module _ (g : ℕ) (page : List ℕ) (w : length report ≡ page_report_width) where
    abbrev page-export : PageExport
    page-export =
        let x = page_call l r g page in
        record {
          number = answer_number x.returned.answer;
          term_table = x.term_table;
          quad_table = x.quad_table;
          saved = saved_bytes x.returned.saved;
          report = count_report report x.returned.answer;
        }

    page-refused : (n : ℕ) → (n ≡ 0 → ⊥) → answer_number (page_call l r g page).returned.answer ≡ n → refused_page n l (saved_bytes r) report ≡ page-export
    page-refused n some e =
        let d = demand-1.page l r g page in
        let x = page_call l r g page in
        let refuses : answer_number x.returned.answer ≡ 0 → ⊥ = λ z. some (sym e ∙ z) in
        let s = d.keeps (λ z. refuses (d.number ∙ z)) in
        λ i. record {
          number = sym e i;
          term_table = sym s.1 i;
          quad_table = sym s.2 i;
          saved = saved_bytes (sym s.0 i);
          report = sym (page-report-kept report x.returned.answer refuses) i;
        }

    page-by : (b a : Bool) → lengths_fit l ≡ b → is_alphabet l.ranks ≡ a → page_export l (saved_bytes r) g page report ≡ page-export
    unfolding page_export first_broken
    page-by true true fit good =
        let d = demand-1.page l r g page in
        let x = page_call l r g page in
        let k = saved_after_lem (answer_number x.returned.answer) x.returned.saved r (λ h. (d.keeps (λ z. h (d.number ∙ z))).0) in
        page-is l (saved_bytes r) g page report (all_fit page_report_width fit w) good
        ∙ (ap (page_on l g page (saved_bytes r) report) (saved-again r f)
        ∙ (λ i. record {
          number = answer_number x.returned.answer;
          term_table = x.term_table;
          quad_table = x.quad_table;
          saved = k i;
          report = count_report report x.returned.answer;
        }))
    page-by true false fit bad =
        let d = demand-1.page l r g page in
        page-ranks l (saved_bytes r) report g page (all_fit page_report_width fit w) bad ∙ page-refused 21 (λ z. omega (arith, z)) (d.number ∙ rw (fit, bad) refl)
    page-by false a fit good =
        let d = demand-1.page l r g page in
        rw (page_export, fit) (page-refused 1 (λ z. omega (arith, z)) (d.number ∙ rw fit refl))

module _ (l : Lent) (k : Kept) (f : Fits k.saved) where
  same-run : (t : Lending run_report_width) (budget : ℕ) (now : ℤ) (h : Handed)
      → engine_call l (HostCall.running (lending_of t) budget now) k ≡ ok h → export_call l (running t budget now) (bytes_of k) ≡ ok (handed_bytes t h)
  unfolding engine_call export_call ◌>>=◌
  same-run (as_left report w) budget now h e =
      let x = Hosts.lent_to l Hosts.as_left k in
      let d = demand-1.run x k.saved budget now in
      rw (run_by x k.saved f report budget now w (lengths_fit x) (is_alphabet x.ranks) refl refl)
      (ap (λ (y : Handed). ok (handed_bytes {width = run_report_width} (as_left report w) y)) (ok-is (rw d.given at e)))
  same-run (others x saved report wrong) budget now h e =
      rw (run-others x saved report budget now (is_false (buffers_fit x saved report run_report_width) wrong)) refl

  same-page : (t : Lending page_report_width) (g : ℕ) (page : List ℕ) (h : Handed)
      → engine_call l (HostCall.paging (lending_of t) g page) k ≡ ok h → export_call l (paging t g page) (bytes_of k) ≡ ok (handed_bytes t h)
  unfolding engine_call export_call
  same-page (as_left report w) g page h e =
      let x = Hosts.lent_to l Hosts.as_left k in
      rw (page-by x k.saved f report g page w (lengths_fit x) (is_alphabet x.ranks) refl refl)
      (ap (λ (y : Handed). ok (handed_bytes {width = page_report_width} (as_left report w) y)) (ok-is e))
  same-page (others x saved report wrong) g page h e =
      rw (page-others x saved report g page (is_false (buffers_fit x saved report page_report_width) wrong)) refl

  same-call : (x : ExportCall) (h : Handed) → engine_call l (call_of x) k ≡ ok h → export_call l x (bytes_of k) ≡ ok (exported x h)
  same-call (running t budget now) h e = same-run t budget now h e
  same-call (paging t g page) h e = same-page t g page h e

-- the host keeps the bytes of what it keeps in demand 3
pub same_kept : (x : ExportCall) (k : Kept) (h : Handed) → after x (bytes_of k) (exported x h) ≡ bytes_of (kept_after (lending (call_of x)) k h)
unfolding no_tables
same_kept (running (as_left report w) budget now) k h = refl
same_kept (running (others x saved report wrong) budget now) k h = refl
same_kept (paging (as_left report w) g page) k h = refl
same_kept (paging (others x saved report wrong) g page) k h = refl

-- ── the list ────────────────────────────────────────────────────────────────────────────────

export-more : (l : Lent) (x : ExportCall) (xs : List ExportCall) (k : KeptBytes) (y : Exported) (ys : List Exported)
    → export_call l x k ≡ ok y → export_calls l xs (after x k y) ≡ ok ys → export_calls l (x ∷ xs) k ≡ ok (y ∷ ys)
unfolding export_calls ◌>>=◌
export-more l x xs k y ys e f = rw (e, f) refl

record FromHere (l : Lent) (k : Kept) (calls : List ExportCall) : Type 0 where
  handed : List Handed
  given : engine_calls l (map call_of calls) k ≡ ok handed
  same : export_calls l calls (bytes_of k) ≡ ok (exported_all calls handed)

module _ (l : Lent) (c : Checked) (loads : Loads l c) where
  from-here : (calls : List ExportCall) (s : State) → Sound c s → ValidIn s → FromHere l (kept_of c s) calls
  unfolding engine_calls export_calls
  from-here [] s sound valid = record { handed = []; given = refl; same = refl }
  from-here (x ∷ xs) s sound valid =
      let y = call_of x in
      let m = fine-ok (call-sound c (check-accepted l.terms l.schema l.script c loads.checks) l.ranks (fed y) s sound) in
      let d = m.0 in
      let k = kept_of c s in
      let h = handed_of c (lending y) s d in
      let one = engine-call l c loads s sound valid y d m.1 in
      let valid' = call-valid l c loads s sound valid y d m.1 in
      let rest = from-here xs (last_of s d.passed) (last-sound c s d.passed sound m.2.passed) valid' in
      let kept = call-keeps l c loads y s d m.1 in
      record {
        handed = h ∷ rest.handed;
        given = engine-more l y (map call_of xs) k h rest.handed one (ap (engine_calls l (map call_of xs)) kept ∙ rest.given);
        same = export-more l x xs (bytes_of k) (exported x h) (exported_all xs rest.handed)
            (same-call l k (sound-fits l.terms l.schema l.script c loads.checks s sound) x h one)
            (ap (export_calls l xs) (same_kept x k h ∙ ap bytes_of kept) ∙ rest.same);
      }

-- ── the theorem ─────────────────────────────────────────────────────────────────────────────

load-start : (l : Lent) (saved : List ℕ) → (load l).returned.answer ≡ Ok tt → length saved ≡ saved_width
    → load_export l saved
    ≡ record { number = 0; term_table = (load l).term_table; quad_table = (load l).quad_table; saved = saved_bytes (load l).returned.saved }
unfolding load_export
load-start l saved e w = rw (load_export, eq-eqb (length saved) saved_width w, e) refl

pub on-bytes : (l : Lent) → (load l).returned.answer ≡ Ok tt → (saved : List ℕ) → length saved ≡ saved_width
    → (calls : List ExportCall) → OnBytes l saved calls
on-bytes l e saved w calls =
    let d = demand-3 l e (map call_of calls) in
    let c = d.checked in
    let s = loaded c.terms c.root in
    let sound = loaded-sound c (check-accepted l.terms l.schema l.script c d.loads) in
    let valid = loaded-valid c (check-valid l.terms l.schema l.script c d.loads) in
    let h = from-here l c (loads-with e d.loads) calls s sound valid in
    let kept = d.start.written in
    let same : h.handed ≡ d.handed =
    ok-is (sym h.given ∙ (ap (engine_calls l (map call_of calls)) (sym kept) ∙ d.given)) in
    record {
      start = load-start l saved e w;
      holds = d;
      agree = ap (λ (k : Kept). export_calls l calls (bytes_of k)) kept ∙ (h.same ∙ ap (λ (hs : List Handed). ok (exported_all calls hs)) same);
    }
