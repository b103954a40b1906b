-- Demand 1 at the C interface, where the saved run and the report, or a record, are lent as bytes too and count as lent tables: the same tables of rules,
-- and on a refusal every lent buffer keeps its bytes.
use Rattle.std.specs.Prelude.{ℕ, ◌≡◌, List, ◌∷◌, Bool, ◌&&◌, eqb, length, ℤ}
use Rattle.std.proofs.Math.Option.{Option}
use Rattle.definitions.specs.Bytes.{onward}
use Rattle.definitions.specs.Outcome.{ok}
use Rattle.definitions.specs.Calls.{Lent, lengths_fit, load, Sound, sound_in, lengths_of, both_tables_fit}
use Rattle.definitions.specs.Limits.{saved_width, run_report_width, page_report_width, total_report_width, number_record_width, suggest_report_width, schema_width, schema_report_width, publish_report_width}
use Rattle.definitions.specs.Exports.{saved_from, load_export, RunExport, run_export, page_export, total_export, number_export, suggest_export, schema_export, publish_export}
use Rattle.theorems.specs.Demand1.{first_broken, read_rules, load_rules, run_rules, page_rules, number_rules, suggest_rules, schema_rules, publish_rules}

-- bytes that no saved run has are unsound
abbrev pub sound_bytes : Lent → (saved : List ℕ) → Option Sound
sound_bytes l saved = onward (saved_from saved) (sound_in l)

-- tables, saved run and report have their lengths
abbrev pub buffers_fit : Lent → (saved report : List ℕ) → (report_width : ℕ) → Bool
buffers_fit l saved report width = lengths_fit l && (eqb (length saved) saved_width && eqb (length report) width)

-- the same without ranks
abbrev pub saved_fits : Lent → (saved report : List ℕ) → (report_width : ℕ) → Bool
saved_fits l saved report width = both_tables_fit (lengths_of l) && (eqb (length saved) saved_width && eqb (length report) width)

abbrev pub load_broken : Lent → (saved : List ℕ) → ℕ
load_broken l saved = first_broken (load_rules (lengths_fit l && eqb (length saved) saved_width) l)

abbrev pub run_broken : Lent → (saved : List ℕ) → (budget : ℕ) → (now : ℤ) → (report : List ℕ) → ℕ
run_broken l saved budget now report = first_broken (run_rules (buffers_fit l saved report run_report_width) l.ranks (sound_bytes l saved) budget now)

abbrev pub page_broken : Lent → (saved : List ℕ) → (graph : ℕ) → (page report : List ℕ) → ℕ
page_broken l saved g page report = first_broken (page_rules (buffers_fit l saved report page_report_width) l.ranks (sound_bytes l saved) g page)

-- its report alone has a length to keep
abbrev pub total_broken : (terms schema script report : List ℕ) → ℕ
total_broken terms schema script report = first_broken ((1, eqb (length report) total_report_width) ∷ read_rules terms schema script)

abbrev pub number_broken : (text lent : List ℕ) → ℕ
number_broken text lent = first_broken ((1, eqb (length lent) number_record_width) ∷ number_rules text)

abbrev pub suggest_broken : (terms schema script report : List ℕ) → ℕ
suggest_broken terms schema script report = first_broken ((1, eqb (length report) suggest_report_width) ∷ suggest_rules terms schema script)

-- the buffer for the schema, and the report
abbrev pub schema_broken : (page schema report : List ℕ) → ℕ
schema_broken page schema report = first_broken (schema_rules (eqb (length report) schema_report_width && eqb (length schema) schema_width) page)

abbrev pub publish_broken : Lent → (saved : List ℕ) → (graph : ℕ) → (page report : List ℕ) → ℕ
publish_broken l saved g page report = first_broken (publish_rules (saved_fits l saved report publish_report_width) (sound_bytes l saved) g (length page))

pub record LoadRefuses (l : Lent) (saved : List ℕ) : Type 0 where
  pub number : (load_export l saved).number ≡ load_broken l saved
  pub keeps : (load_broken l saved ≡ 0 → ⊥) → let r = load_export l saved in
      (r.term_table ≡ l.term_table) × (r.quad_table ≡ l.quad_table) × (r.saved ≡ saved)

pub record RunRefuses (l : Lent) (saved : List ℕ) (budget : ℕ) (now : ℤ) (report : List ℕ) : Type 0 where
  pub ran : RunExport
  pub given : run_export l saved budget now report ≡ ok ran
  pub number : ran.number ≡ run_broken l saved budget now report
  pub keeps : (run_broken l saved budget now report ≡ 0 → ⊥) → (ran.saved ≡ saved) × (ran.report ≡ report)

pub record PageRefuses (l : Lent) (saved : List ℕ) (graph : ℕ) (page report : List ℕ) : Type 0 where
  pub number : (page_export l saved graph page report).number ≡ page_broken l saved graph page report
  pub keeps : (page_broken l saved graph page report ≡ 0 → ⊥) → let r = page_export l saved graph page report in
      (r.term_table ≡ l.term_table) × (r.quad_table ≡ l.quad_table) × (r.saved ≡ saved) × (r.report ≡ report)

pub record TotalRefuses (terms schema script report : List ℕ) : Type 0 where
  pub number : (total_export terms schema script report).number ≡ total_broken terms schema script report
  pub keeps : (total_broken terms schema script report ≡ 0 → ⊥) → (total_export terms schema script report).report ≡ report

pub record NumberRefuses (text lent : List ℕ) : Type 0 where
  pub number : (number_export text lent).number ≡ number_broken text lent
  pub keeps : (number_broken text lent ≡ 0 → ⊥) → (number_export text lent).«record» ≡ lent

pub record SuggestRefuses (terms schema script report : List ℕ) : Type 0 where
  pub number : (suggest_export terms schema script report).number ≡ suggest_broken terms schema script report
  pub keeps : (suggest_broken terms schema script report ≡ 0 → ⊥) → (suggest_export terms schema script report).report ≡ report

pub record SchemaRefuses (page schema report : List ℕ) : Type 0 where
  pub number : (schema_export page schema report).number ≡ schema_broken page schema report
  pub keeps : (schema_broken page schema report ≡ 0 → ⊥) → let r = schema_export page schema report in (r.schema ≡ schema) × (r.report ≡ report)

pub record PublishRefuses (l : Lent) (saved : List ℕ) (graph : ℕ) (page report : List ℕ) : Type 0 where
  pub number : (publish_export l saved graph page report).number ≡ publish_broken l saved graph page report
  pub keeps : (publish_broken l saved graph page report ≡ 0 → ⊥) → let r = publish_export l saved graph page report in (r.page ≡ page) × (r.report ≡ report)

pub record ExportRefusals : Type 0 where
  pub load : (l : Lent) (saved : List ℕ) → LoadRefuses l saved
  pub run : (l : Lent) (saved : List ℕ) (budget : ℕ) (now : ℤ) (report : List ℕ) → RunRefuses l saved budget now report
  pub page : (l : Lent) (saved : List ℕ) (graph : ℕ) (page report : List ℕ) → PageRefuses l saved graph page report
  pub total : (terms schema script report : List ℕ) → TotalRefuses terms schema script report
  pub number : (text lent : List ℕ) → NumberRefuses text lent
  pub suggest : (terms schema script report : List ℕ) → SuggestRefuses terms schema script report
  pub schema : (page schema report : List ℕ) → SchemaRefuses page schema report
  pub publish : (l : Lent) (saved : List ℕ) (graph : ℕ) (page report : List ℕ) → PublishRefuses l saved graph page report
