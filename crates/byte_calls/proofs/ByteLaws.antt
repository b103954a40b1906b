-- The calls by their cases: another length, and the answer of the call itself.
use Rattle.definitions.specs.Result.{OrRefusal}
use Prim.Native.Nat.{ℕ}
use mathlib.Core.Path.{◌≡◌, ap, sym, ◌∙◌}
use mathlib.Core.List.{List}
use mathlib.Core.Bool.{Bool, true, false, not}
use lib.Dec.{eqb}
use lib.ListN.{length}
use borrow.Author.Tests.{not-true, not-false}
use Rattle.definitions.specs.Terms.{Term}
use Rattle.definitions.specs.Result.{Result}
use Rattle.definitions.specs.Calls.{total, number_call, suggest, SchemaResult, schema_call}
use Rattle.definitions.specs.Numbers.{answer_number, result_number}
use Rattle.definitions.specs.Limits.{total_report_width, number_record_width, suggest_report_width, schema_report_width}
use Rattle.definitions.specs.Exports.{count_report, record_after, suggest_report, schema_report}
use Rattle.definitions.specs.Exports.{total_export, number_export, suggest_export, schema_export}
use Rattle.definitions.specs.declared.Suggested.{Suggested}
use Rattle.definitions.specs.declared.SchemaCounts.{SchemaCounts}

-- ── total ───────────────────────────────────────────────────────────────────────────────────

module _ (terms schema script report : List ℕ) where
  pub total-length : {b : Bool} {n : ℕ} → b ≡ eqb (length report) total_report_width → not b ≡ true → n ≡ 1 → total_export terms schema script report ≡ record { number = n; report = report }
  unfolding total_export
  total-length e t k = rw (total_export, sym e ∙ not-true _ t, k)

  pub total-done : {b : Bool} {answer : OrRefusal ℕ} {p : List ℕ} {n : ℕ} → b ≡ eqb (length report) total_report_width → not b ≡ false → answer ≡ total terms schema script
      → p ≡ count_report report answer → n ≡ answer_number answer → total_export terms schema script report ≡ record { number = n; report = p }
  unfolding total_export
  total-done {b} f t e written number =
      let m = number ∙ ap answer_number e in
      let k = written ∙ ap (count_report report) e in
      rw (total_export, sym f ∙ not-false b t) (λ i. record { number = sym m i; report = sym k i })

-- ── number ──────────────────────────────────────────────────────────────────────────────────

module _ (text lent : List ℕ) where
  pub number-length : {b : Bool} {n : ℕ} → b ≡ eqb (length lent) number_record_width → not b ≡ true → n ≡ 1 → number_export text lent ≡ record { number = n; «record» = lent }
  unfolding number_export
  number-length e t k = rw (number_export, sym e ∙ not-true _ t, k)

  pub number-done : {b : Bool} {r : Result Term} {p : List ℕ} {n : ℕ} → b ≡ eqb (length lent) number_record_width → not b ≡ false → r ≡ number_call text → p ≡ record_after lent r → n ≡ result_number r
      → number_export text lent ≡ record { number = n; «record» = p }
  unfolding number_export
  number-done {b} f t e written number =
      let m = number ∙ ap result_number e in
      let k = written ∙ ap (record_after lent) e in
      rw (number_export, sym f ∙ not-false b t) (λ i. record { number = sym m i; «record» = sym k i })

-- ── suggest ─────────────────────────────────────────────────────────────────────────────────

module _ (terms schema script report : List ℕ) where
  pub suggest-length : {b : Bool} {n : ℕ} → b ≡ eqb (length report) suggest_report_width → not b ≡ true → n ≡ 1 → suggest_export terms schema script report ≡ record { number = n; report = report }
  unfolding suggest_export
  suggest-length e t k = rw (suggest_export, sym e ∙ not-true _ t, k)

  pub suggest-done : {b : Bool} {answer : OrRefusal Suggested} {p : List ℕ} {n : ℕ} → b ≡ eqb (length report) suggest_report_width → not b ≡ false → answer ≡ suggest terms schema script
      → p ≡ suggest_report report answer → n ≡ answer_number answer → suggest_export terms schema script report ≡ record { number = n; report = p }
  unfolding suggest_export
  suggest-done {b} f t e written number =
      let m = number ∙ ap answer_number e in
      let k = written ∙ ap (suggest_report report) e in
      rw (suggest_export, sym f ∙ not-false b t) (λ i. record { number = sym m i; report = sym k i })

-- ── a schema out of a page ──────────────────────────────────────────────────────────────────

module _ (page schema report : List ℕ) where
  pub schema-length : {b : Bool} {n : ℕ} → b ≡ eqb (length report) schema_report_width → not b ≡ true → n ≡ 1 → schema_export page schema report ≡ record { number = n; schema = schema; report = report }
  unfolding schema_export
  schema-length e t k = rw (schema_export, sym e ∙ not-true _ t, k)

  pub schema-done : {b : Bool} {answer : OrRefusal SchemaCounts} {after p : List ℕ} {n : ℕ} → b ≡ eqb (length report) schema_report_width → not b ≡ false
      → schema_call page schema ≡ record { answer = answer; schema = after }
      → p ≡ schema_report report answer → n ≡ answer_number answer → schema_export page schema report ≡ record { number = n; schema = after; report = p }
  unfolding schema_export
  schema-done {b} {answer} {after} {p} {n} f t call written number =
      let x : SchemaResult = record { answer = answer; schema = after } in
      rw (schema_export, sym f ∙ not-false b t, call)
      (λ i. record { number = sym number i; schema = x.schema; report = sym written i })
