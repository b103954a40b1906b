-- The calls by their cases: another length, bytes that no saved run has, and the engine's answer.
use Rattle.definitions.specs.Result.{OrRefusal}
use Prim.Native.Nat.{ℕ}
use mathlib.Core.Path.{◌≡◌, refl, ap, sym, ◌∙◌}
use mathlib.Core.List.{List}
use mathlib.Core.Bool.{Bool, true, false, not}
use mathlib.Core.Option.{none, some}
use lib.IntN.{ℤ}
use lib.Dec.{eqb}
use lib.ListN.{length}
use borrow.Author.Tests.{not-true, not-false}
use Rattle.definitions.specs.Outcome.{ok, ◌>>=◌}
use Rattle.definitions.specs.Calls.{Lent, lengths_of, load, run_call, page_call, publish_call}
use Rattle.definitions.specs.Alphabet.{is_alphabet}
use Rattle.definitions.specs.Numbers.{answer_number, refusal_number}
use Rattle.definitions.specs.Limits.{saved_width, run_report_width, page_report_width, publish_report_width}
use Rattle.definitions.specs.Exports.{saved_from, saved_after, run_report, count_report}
use Rattle.definitions.specs.Exports.{load_export, refused_run, ran_export, run_export, refused_page, paged_export, page_export}
use Rattle.definitions.specs.Exports.{publish_export}
use Rattle.definitions.specs.declared.SavedRun.{SavedRun}
use Rattle.definitions.specs.declared.Loaded.{Loaded}
use Rattle.definitions.specs.declared.Ran.{Ran}
use Rattle.definitions.specs.declared.Paged.{Paged}
use Rattle.laws.proofs.SoundIn.{entry-ranks}
use Rattle.alphabet.specs.Unread.{unread_refusal}
use Rattle.lengths.specs.Buffers.{buffers_fit, saved_fits}
use Rattle.lengths.proofs.BufferLaws.{tables-fit}
use Rattle.running.proofs.RunLaws as RunLaws
use Rattle.paging.proofs.PageLaws as PageLaws

-- ── load ────────────────────────────────────────────────────────────────────────────────────

module _ (l : Lent) (saved : List ℕ) where
  pub load-length : {b : Bool} {n : ℕ} → b ≡ eqb (length saved) saved_width → not b ≡ true → n ≡ 1
      → load_export l saved ≡ record { number = n; term_table = l.term_table; quad_table = l.quad_table; saved = saved }
  unfolding load_export
  load-length e t k = rw (load_export, sym e ∙ not-true _ t, k)

  pub load-done : {b : Bool} {x : Loaded} {t q s : List ℕ} {n : ℕ} → b ≡ eqb (length saved) saved_width → not b ≡ false → x ≡ (load l).returned → t ≡ (load l).term_table
      → q ≡ (load l).quad_table → n ≡ answer_number x.answer → s ≡ saved_after n x.saved saved
      → load_export l saved ≡ record { number = n; term_table = t; quad_table = q; saved = s }
  unfolding load_export
  load-done {b} {x} {t} {q} {s} {n} f h e a c number after =
      let m : n ≡ answer_number (load l).returned.answer = number ∙ ap (λ (y : Loaded). answer_number y.answer) e in
      let k : s ≡ saved_after (answer_number (load l).returned.answer) (load l).returned.saved saved = after ∙ (λ i. saved_after (m i) (e i).saved saved) in
      rw (load_export, sym f ∙ not-false b h)
      (λ i. record { number = sym m i; term_table = sym a i; quad_table = sym c i; saved = sym k i })

-- ── run ─────────────────────────────────────────────────────────────────────────────────────

module _ (l : Lent) (saved : List ℕ) (budget : ℕ) (now : ℤ) (report : List ℕ) where
  abbrev run_fits : Bool
  run_fits = buffers_fit (lengths_of l) (length saved) (length report) run_report_width

  pub run_length : {b : Bool} {n : ℕ} → b ≡ run_fits → not b ≡ true → n ≡ 1 → run_export l saved budget now report ≡ ok (record { number = n; saved = saved; report = report })
  unfolding run_export buffers_fit
  run_length e t k = rw (run_export, sym e ∙ not-true _ t, k)

  module _ {b : Bool} (e : b ≡ run_fits) (t : not b ≡ false) where
    pub run-unread : saved_from saved ≡ none → {n : ℕ} → n ≡ refusal_number (unread_refusal l.ranks) → run_export l saved budget now report ≡ ok (refused_run n saved report)
    unfolding run_export buffers_fit
    run-unread u number = by-ranks (is_alphabet l.ranks) refl ∙ ap (λ (k : ℕ). ok (refused_run k saved report)) (sym number)
      where
        by-ranks : (a : Bool) → is_alphabet l.ranks ≡ a → run_export l saved budget now report ≡ ok (refused_run (refusal_number (unread_refusal l.ranks)) saved report)
        by-ranks true good = rw (run_export, sym e ∙ not-false b t, good, u) refl
        by-ranks false bad = rw (run_export, sym e ∙ not-false b t, bad) refl

    -- of a saved run the call itself tests the ranks
    run-read : {r : SavedRun} → saved_from saved ≡ some r → run_export l saved budget now report ≡ (run_call l r budget now >>= λ x. ok (ran_export saved report x))
    unfolding run_export run_report buffers_fit ◌>>=◌
    run-read {r} u = by-ranks (is_alphabet l.ranks) refl
      where
        by-ranks : (a : Bool) → is_alphabet l.ranks ≡ a → run_export l saved budget now report ≡ (run_call l r budget now >>= λ x. ok (ran_export saved report x))
        by-ranks true good = rw (run_export, sym e ∙ not-false b t, good, u) refl
        by-ranks false bad =
            let refuses = RunLaws.entry-refused l r budget now (entry-ranks l r (tables-fit (lengths_of l) (length saved) (length report) run_report_width e t) bad) refl in
            rw (run_export, sym e ∙ not-false b t, bad) (sym (ap (λ o. o >>= λ x. ok (ran_export saved report x)) refuses))

    -- the clock as it is handed on
    pub run-done : {r : SavedRun} {x : Ran} {clock : ℤ} {s p : List ℕ} {n : ℕ} → saved_from saved ≡ some r → clock ≡ now → run_call l r budget clock ≡ ok x
        → n ≡ answer_number x.answer → s ≡ saved_after n x.saved saved → p ≡ run_report report x.answer
        → run_export l saved budget now report ≡ ok (record { number = n; saved = s; report = p })
    unfolding ◌>>=◌
    run-done {r} {x} u same call number after reported =
        let k = after ∙ ap (λ (m : ℕ). saved_after m x.saved saved) number in
        run-read u ∙ rw (← same, call) (λ i. ok (record { number = sym number i; saved = sym k i; report = sym reported i }))

-- ── page ────────────────────────────────────────────────────────────────────────────────────

module _ (l : Lent) (saved : List ℕ) (g : ℕ) (page report : List ℕ) where
  abbrev page_fits : Bool
  page_fits = buffers_fit (lengths_of l) (length saved) (length report) page_report_width

  pub page-length : {b : Bool} {n : ℕ} → b ≡ page_fits → not b ≡ true → n ≡ 1 → page_export l saved g page report
      ≡ record { number = n; term_table = l.term_table; quad_table = l.quad_table; saved = saved; report = report }
  unfolding page_export buffers_fit
  page-length e t k = rw (page_export, sym e ∙ not-true _ t, k)

  module _ {b : Bool} (e : b ≡ page_fits) (t : not b ≡ false) where
    pub page-unread : saved_from saved ≡ none → {n : ℕ} → n ≡ refusal_number (unread_refusal l.ranks) → page_export l saved g page report ≡ refused_page n l saved report
    unfolding page_export buffers_fit
    page-unread u number = by-ranks (is_alphabet l.ranks) refl ∙ ap (λ (k : ℕ). refused_page k l saved report) (sym number)
      where
        by-ranks : (a : Bool) → is_alphabet l.ranks ≡ a → page_export l saved g page report ≡ refused_page (refusal_number (unread_refusal l.ranks)) l saved report
        by-ranks true good = rw (page_export, sym e ∙ not-false b t, good, u) refl
        by-ranks false bad = rw (page_export, sym e ∙ not-false b t, bad) refl

    -- of a saved run the call itself tests the ranks
    page-read : {r : SavedRun} → saved_from saved ≡ some r → page_export l saved g page report ≡ paged_export saved report (page_call l r g page)
    unfolding page_export count_report buffers_fit
    page-read {r} u = by-ranks (is_alphabet l.ranks) refl
      where
        by-ranks : (a : Bool) → is_alphabet l.ranks ≡ a → page_export l saved g page report ≡ paged_export saved report (page_call l r g page)
        by-ranks true good = rw (page_export, sym e ∙ not-false b t, good, u) refl
        by-ranks false bad =
            let refuses = PageLaws.entry-refused l r g page (entry-ranks l r (tables-fit (lengths_of l) (length saved) (length report) page_report_width e t) bad) refl in
            rw (page_export, sym e ∙ not-false b t, bad) (sym (ap (paged_export saved report) refuses))

    pub page-done : {r : SavedRun} {x : Paged} {t q s p : List ℕ} {n : ℕ} → saved_from saved ≡ some r
        → page_call l r g page ≡ record { returned = x; term_table = t; quad_table = q } → n ≡ answer_number x.answer
        → s ≡ saved_after n x.saved saved → p ≡ count_report report x.answer
        → page_export l saved g page report ≡ record { number = n; term_table = t; quad_table = q; saved = s; report = p }
    page-done {r} {x} {t} {q} u call number after reported =
        let k = after ∙ ap (λ (m : ℕ). saved_after m x.saved saved) number in
        page-read u ∙ rw call (λ i. record { number = sym number i; term_table = t; quad_table = q; saved = sym k i; report = sym reported i })

-- ── publish ─────────────────────────────────────────────────────────────────────────────────

module _ (l : Lent) (saved : List ℕ) (g : ℕ) (page report : List ℕ) where
  abbrev publish_fits : Bool
  publish_fits = saved_fits (length l.term_table) (length l.quad_table) (length saved) (length report) publish_report_width

  pub publish-length : {b : Bool} {n : ℕ} → b ≡ publish_fits → not b ≡ true → n ≡ 1 → publish_export l saved g page report ≡ record { number = n; page = page; report = report }
  unfolding publish_export saved_fits
  publish-length e t k = rw (publish_export, sym e ∙ not-true _ t, k)

  module _ {b : Bool} (e : b ≡ publish_fits) (t : not b ≡ false) where
    pub publish-unread : saved_from saved ≡ none → {n : ℕ} → n ≡ 10 → publish_export l saved g page report ≡ record { number = n; page = page; report = report }
    unfolding publish_export saved_fits
    publish-unread u k = rw (publish_export, sym e ∙ not-false b t, u, k) refl

    pub publish-done : {r : SavedRun} {x : OrRefusal ℕ} {q p : List ℕ} {n : ℕ} → saved_from saved ≡ some r → publish_call l r g page ≡ record { returned = x; page = q }
        → p ≡ count_report report x → n ≡ answer_number x → publish_export l saved g page report ≡ record { number = n; page = q; report = p }
    unfolding publish_export saved_fits
    publish-done {q = q} u call written number =
        rw (publish_export, sym e ∙ not-false b t, u, call) (λ i. record { number = sym number i; page = q; report = sym written i })
