-- Demand 1 at the C interface, proved.
use Rattle.std.specs.Prelude.{Ok, Err}
use Rattle.definitions.specs.Result.{OrRefusal}
use Prim.Native.Nat.{ℕ, zero, suc}
use mathlib.Core.Path.{◌≡◌, refl, sym, ◌∙◌}
use mathlib.Core.List.{List}
use mathlib.Core.Bool.{Bool, true, false, ◌&&◌}
use mathlib.Core.Option.{Option, none, some}
use lib.Dec.{T, eqb}
use lib.ListN.{length}
use lib.IntN.{ℤ}
use Rattle.definitions.specs.Bytes.{onward}
use Rattle.definitions.specs.Terms.{Term}
use Rattle.definitions.specs.Outcome.{ok, ◌>>=◌}
use Rattle.definitions.specs.Result.{Result, refused, passed}
use Rattle.definitions.specs.Alphabet.{is_alphabet}
use Rattle.definitions.specs.Calls.{Lent, lengths_fit, load, sound_in, page_call, total, number_call, suggest, schema_call, lengths_of, both_tables_fit, publish_call}
use Rattle.definitions.specs.Numbers.{answer_number, result_number}
use Rattle.definitions.specs.Limits.{saved_width, run_report_width, page_report_width, total_report_width, number_record_width, suggest_report_width, schema_report_width, publish_report_width}
use Rattle.definitions.specs.Exports.{saved_from, run_report, count_report, saved_after, record_after, suggest_report, schema_report}
use Rattle.definitions.specs.Exports.{load_export, RunExport, run_on, run_export, page_on, page_export, ran_export, total_export, number_export, suggest_export, schema_export}
use Rattle.definitions.specs.Exports.{publish_on, publish_export}
use Rattle.definitions.specs.declared.SavedRun.{SavedRun}
use Rattle.definitions.specs.declared.RunEnd.{RunEnd}
use Rattle.definitions.specs.declared.Suggested.{Suggested}
use Rattle.definitions.specs.declared.Suggested.TheVariants as Suggests
use Rattle.laws.proofs.Tests.{and_left, is_true, true_is, and_false}
use Rattle.theorems.specs.Demand1.{first_broken, is_there, load_rules, run_rules, page_rules, publish_rules}
use Rattle.theorems.proofs.Demand1.{demand-1}
use Rattle.theorems.specs.ExportRefusals.{buffers_fit, load_broken, LoadRefuses, RunRefuses, PageRefuses, TotalRefuses, NumberRefuses, ExportRefusals, SuggestRefuses, SchemaRefuses}
use Rattle.theorems.specs.ExportRefusals.{saved_fits, PublishRefuses}
use Rattle.definitions.specs.declared.SchemaCounts.{SchemaCounts}

-- ── the proof ───────────────────────────────────────────────────────────────────────────────

and-true : (a : Bool) → (a && true) ≡ a
and-true true = refl
and-true false = refl

-- a refusal leaves saved run and report
saved-kept : (n : ℕ) (r : SavedRun) (lent : List ℕ) → (n ≡ 0 → ⊥) → saved_after n r lent ≡ lent
saved-kept zero r lent h = absurd (h refl)
saved-kept (suc n) r lent h = refl

pub run-report-kept : (report : List ℕ) (a : OrRefusal RunEnd) → (answer_number a ≡ 0 → ⊥) → run_report report a ≡ report
unfolding run_report
run-report-kept report (Ok e) h = absurd (h refl)
run-report-kept report (Err n) h = refl

pub page-report-kept : (report : List ℕ) (a : OrRefusal ℕ) → (answer_number a ≡ 0 → ⊥) → count_report report a ≡ report
unfolding count_report
page-report-kept report (Ok skipped) h = absurd (h refl)
page-report-kept report (Err n) h = refl

load-refuses : (l : Lent) (saved : List ℕ) (b : Bool) → eqb (length saved) saved_width ≡ b → LoadRefuses l saved
unfolding load_export first_broken
load-refuses l saved false e =
    record { number = rw (e, and_false (lengths_fit l), load_export) refl; keeps = λ h. rw (e, load_export) (refl, refl, refl) }
load-refuses l saved true e =
    let d = demand-1.load l in
    let same : load_broken l saved ≡ first_broken (load_rules (lengths_fit l) l) = rw (e, and-true (lengths_fit l)) refl in
    record {
      number = rw (load_export, e, and-true (lengths_fit l)) d.number;
      keeps = λ h.
          let k = d.keeps (λ z. h (same ∙ z)) in
          let r = (load l).returned in
          rw (e, load_export) (k.0, k.1, saved-kept (answer_number r.answer) r.saved saved (λ z. h (same ∙ sym d.number ∙ z)));
    }

module _ (l : Lent) (saved : List ℕ) (budget : ℕ) (now : ℤ) (report : List ℕ) where
  -- of the saved run that the bytes hold, if there is one
  record RunOn (o : Option SavedRun) : Type 0 where
    ran : RunExport
    given : run_on l budget now saved report o ≡ ok ran
    number : ran.number ≡ first_broken (run_rules true l.ranks (onward o (sound_in l)) budget now)
    keeps : (first_broken (run_rules true l.ranks (onward o (sound_in l)) budget now) ≡ 0 → ⊥) → (ran.saved ≡ saved) × (ran.report ≡ report)

  run_on_lem : (o : Option SavedRun) → T (lengths_fit l) → is_alphabet l.ranks ≡ true → RunOn o
  unfolding onward first_broken is_there ◌>>=◌
  run_on_lem none fit good = record { ran = record { number = 10; saved = saved; report = report }; given = refl; number = rw good refl; keeps = λ h. (refl, refl) }
  run_on_lem (some r) fit good =
      let d = demand-1.run l r budget now in
      let n : answer_number d.ran.answer ≡ first_broken (run_rules true l.ranks (sound_in l r) budget now) = rw (is_true (lengths_fit l) fit) at d.number in
      record {
        ran = ran_export saved report d.ran;
        given = rw d.given refl;
        number = n;
        keeps = λ h. (
          saved-kept (answer_number d.ran.answer) d.ran.saved saved (λ z. h (sym n ∙ z)),
          run-report-kept report d.ran.answer (λ z. h (sym n ∙ z)),
        );
      }

  ran_on : buffers_fit l saved report run_report_width ≡ true → is_alphabet l.ranks ≡ true → RunOn (saved_from saved) → RunRefuses l saved budget now report
  unfolding run_export first_broken
  ran_on e good r = record { ran = r.ran; given = rw (e, good, run_export) r.given; number = rw e r.number; keeps = rw e r.keeps }

  run-refuses : (b a : Bool) → buffers_fit l saved report run_report_width ≡ b → is_alphabet l.ranks ≡ a → RunRefuses l saved budget now report
  unfolding run_export first_broken
  run-refuses true false e bad =
      record {
        ran = record { number = 21; saved = saved; report = report };
        given = rw (e, bad, run_export) refl;
        number = rw (e, bad) refl;
        keeps = λ h. (refl, refl);
      }
  run-refuses false a e good =
      record {
        ran = record { number = 1; saved = saved; report = report };
        given = rw (e, run_export) refl;
        number = rw e refl;
        keeps = λ h. (refl, refl);
      }
  run-refuses true true e good =
      let others = eqb (length saved) saved_width && eqb (length report) run_report_width in
      ran_on e good (run_on_lem (saved_from saved) (and_left (lengths_fit l) others (true_is (lengths_fit l && others) e)) good)

page-on : (l : Lent) (saved : List ℕ) (g : ℕ) (page report : List ℕ) (o : Option SavedRun) → T (lengths_fit l) → is_alphabet l.ranks ≡ true
    → let r = page_on l g page saved report o in
    (r.number ≡ first_broken (page_rules true l.ranks (onward o (sound_in l)) g page))
    × ((first_broken (page_rules true l.ranks (onward o (sound_in l)) g page) ≡ 0 → ⊥)
    → (r.term_table ≡ l.term_table) × (r.quad_table ≡ l.quad_table) × (r.saved ≡ saved) × (r.report ≡ report))
unfolding onward first_broken is_there
page-on l saved g page report none fit good = (rw good refl, λ h. (refl, refl, refl, refl))
page-on l saved g page report (some r) fit good =
    let d = demand-1.page l r g page in
    let x = (page_call l r g page).returned in
    let same : first_broken (page_rules (lengths_fit l) l.ranks (sound_in l r) g page) ≡ first_broken (page_rules true l.ranks (sound_in l r) g page) =
    rw (is_true (lengths_fit l) fit) refl in
    let n = d.number ∙ same in (
      n,
      λ h.
          let k = d.keeps (λ z. h (sym same ∙ z)) in
          let number : answer_number x.answer ≡ 0 → ⊥ = λ z. h (sym n ∙ z) in
          (k.1, k.2, saved-kept (answer_number x.answer) x.saved saved number, page-report-kept report x.answer number),
    )

pub page-is : (l : Lent) (saved : List ℕ) (g : ℕ) (page report : List ℕ) → buffers_fit l saved report page_report_width ≡ true → is_alphabet l.ranks ≡ true
    → page_export l saved g page report ≡ page_on l g page saved report (saved_from saved)
unfolding page_export
page-is l saved g page report e good = rw (e, good, page_export) refl

page-answers : (l : Lent) (saved : List ℕ) (g : ℕ) (page report : List ℕ) → buffers_fit l saved report page_report_width ≡ true → is_alphabet l.ranks ≡ true
    → PageRefuses l saved g page report
page-answers l saved g page report e good =
    let fit = and_left (lengths_fit l) (eqb (length saved) saved_width && eqb (length report) page_report_width)
    (true_is (buffers_fit l saved report page_report_width) e) in
    let r = page-on l saved g page report (saved_from saved) fit good in
    let same = page-is l saved g page report e good in
    record { number = rw (same, e) r.0; keeps = rw (same, e) r.1 }

page-refuses : (l : Lent) (saved : List ℕ) (g : ℕ) (page report : List ℕ) (b a : Bool) → buffers_fit l saved report page_report_width ≡ b → is_alphabet l.ranks ≡ a
    → PageRefuses l saved g page report
unfolding page_export first_broken
page-refuses l saved g page report true false e bad = record { number = rw (e, bad, page_export) refl; keeps = λ h. rw (e, bad, page_export) (refl, refl, refl, refl) }
page-refuses l saved g page report false a e good = record { number = rw (e, page_export) refl; keeps = λ h. rw (e, page_export) (refl, refl, refl, refl) }
page-refuses l saved g page report true true e good = page-answers l saved g page report e good

module _ (terms schema script report : List ℕ) where
  total-report-kept : (a : OrRefusal ℕ) → (answer_number a ≡ 0 → ⊥) → count_report report a ≡ report
  unfolding count_report
  total-report-kept (Ok n) h = absurd (h refl)
  total-report-kept (Err n) h = refl

  total-refuses : (b : Bool) → eqb (length report) total_report_width ≡ b → TotalRefuses terms schema script report
  unfolding total_export first_broken
  total-refuses false e = record { number = rw (e, total_export) refl; keeps = λ h. rw (e, total_export) refl }
  total-refuses true e =
      let d = demand-1.total terms schema script in
      record {
        number = rw (e, total_export) d.number;
        keeps = rw (e, total_export) (λ h. total-report-kept (total terms schema script) (λ z. h (sym d.number ∙ z)));
      }

module _ (text lent : List ℕ) where
  record-kept : (r : Result Term) → (result_number r ≡ 0 → ⊥) → record_after lent r ≡ lent
  unfolding record_after
  record-kept (refused n) h = refl
  record-kept (passed t) h = absurd (h refl)

  number-refuses : (b : Bool) → eqb (length lent) number_record_width ≡ b → NumberRefuses text lent
  unfolding number_export first_broken
  number-refuses false e = record { number = rw (e, number_export) refl; keeps = λ h. rw (e, number_export) refl }
  number-refuses true e =
      let d = demand-1.number text in
      record {
        number = rw (e, number_export) d.number;
        keeps = rw (e, number_export) (λ h. record-kept (number_call text) (λ z. h (sym d.number ∙ z)));
      }

module _ (terms schema script report : List ℕ) where
  suggest-report-kept : (a : OrRefusal Suggested) → (answer_number a ≡ 0 → ⊥) → suggest_report report a ≡ report
  unfolding suggest_report
  suggest-report-kept (Ok Suggests.Accepted) h = absurd (h refl)
  suggest-report-kept (Ok (Suggests.Named x code)) h = absurd (h refl)
  suggest-report-kept (Ok Suggests.NoSingle) h = absurd (h refl)
  suggest-report-kept (Err n) h = refl

  suggest-refuses : (b : Bool) → eqb (length report) suggest_report_width ≡ b → SuggestRefuses terms schema script report
  unfolding suggest_export first_broken
  suggest-refuses false e = record { number = rw (e, suggest_export) refl; keeps = λ h. rw (e, suggest_export) refl }
  suggest-refuses true e =
      let d = demand-1.suggest terms schema script in
      record {
        number = rw (e, suggest_export) d.number;
        keeps = rw (e, suggest_export) (λ h. suggest-report-kept (suggest terms schema script) (λ z. h (sym d.number ∙ z)));
      }

module _ (page schema report : List ℕ) where
  schema-report-kept : (a : OrRefusal SchemaCounts) → (answer_number a ≡ 0 → ⊥) → schema_report report a ≡ report
  unfolding schema_report
  schema-report-kept (Ok g) h = absurd (h refl)
  schema-report-kept (Err n) h = refl

  schema-refuses : (b : Bool) → eqb (length report) schema_report_width ≡ b → SchemaRefuses page schema report
  unfolding schema_export first_broken
  schema-refuses false e = record { number = rw (e, schema_export) refl; keeps = λ h. rw (e, schema_export) (refl, refl) }
  schema-refuses true e =
      let d = demand-1.schema page schema in
      record {
        number = rw (e, schema_export) d.number;
        keeps = rw (e, schema_export) (λ h. (d.keeps h, schema-report-kept (schema_call page schema).answer (λ z. h (sym d.number ∙ z))));
      }

module _ (l : Lent) (saved : List ℕ) (g : ℕ) (page report : List ℕ) where
  publish-report-kept : (a : OrRefusal ℕ) → (answer_number a ≡ 0 → ⊥) → count_report report a ≡ report
  unfolding count_report
  publish-report-kept (Ok n) h = absurd (h refl)
  publish-report-kept (Err n) h = refl

  publish-on : (o : Option SavedRun) → T (both_tables_fit (lengths_of l)) → let r = publish_on l g page report o in
      (r.number ≡ first_broken (publish_rules true (onward o (sound_in l)) g (length page)))
      × ((first_broken (publish_rules true (onward o (sound_in l)) g (length page)) ≡ 0 → ⊥) → (r.page ≡ page) × (r.report ≡ report))
  unfolding onward first_broken is_there
  publish-on none fit = (refl, λ h. (refl, refl))
  publish-on (some r) fit =
      let d = demand-1.publish l r g page in
      let same : first_broken (publish_rules (both_tables_fit (lengths_of l)) (sound_in l r) g (length page)) ≡ first_broken (publish_rules true (sound_in l r) g (length page)) =
      rw (is_true (both_tables_fit (lengths_of l)) fit) refl in
      let n = d.number ∙ same in
      (n, λ h. (d.keeps (λ z. h (sym same ∙ z)), publish-report-kept (publish_call l r g page).returned (λ z. h (sym n ∙ z))))

  publish-refuses : (b : Bool) → saved_fits l saved report publish_report_width ≡ b → PublishRefuses l saved g page report
  unfolding publish_export first_broken
  publish-refuses false e = record { number = rw (e, publish_export) refl; keeps = λ h. rw (e, publish_export) (refl, refl) }
  publish-refuses true e =
      let others = eqb (length saved) saved_width && eqb (length report) publish_report_width in
      let x = publish-on (saved_from saved) (and_left (both_tables_fit (lengths_of l)) others (true_is (both_tables_fit (lengths_of l) && others) e)) in
      record { number = rw (e, publish_export) x.0; keeps = rw (e, publish_export) x.1 }

-- ── the theorem ─────────────────────────────────────────────────────────────────────────────

pub export-refusals : ExportRefusals
export-refusals = record {
  load = λ l saved. load-refuses l saved (eqb (length saved) saved_width) refl;
  run = λ l saved budget now report. run-refuses l saved budget now report (buffers_fit l saved report run_report_width) (is_alphabet l.ranks) refl refl;
  page = λ l saved g page report. page-refuses l saved g page report (buffers_fit l saved report page_report_width) (is_alphabet l.ranks) refl refl;
  total = λ terms schema script report. total-refuses terms schema script report (eqb (length report) total_report_width) refl;
  number = λ text lent. number-refuses text lent (eqb (length lent) number_record_width) refl;
  suggest = λ terms schema script report. suggest-refuses terms schema script report (eqb (length report) suggest_report_width) refl;
  schema = λ page schema report. schema-refuses page schema report (eqb (length report) schema_report_width) refl;
  publish = λ l saved g page report. publish-refuses l saved g page report (saved_fits l saved report publish_report_width) refl;
}
