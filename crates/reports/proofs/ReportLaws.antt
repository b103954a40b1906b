-- The reports, by the cases of an answer.
use Prim.Native.Nat.{ℕ}
use mathlib.Core.Path.{◌≡◌, ap, sym, ◌∙◌}
use mathlib.Core.List.{List, ◌++◌}
use Rattle.std.specs.Prelude.{Ok, Err}
use Rattle.definitions.specs.Bytes.{little_bytes}
use Rattle.definitions.specs.Exports.{count_report, schema_report}
use Rattle.definitions.specs.Result.{OrRefusal}
use Rattle.definitions.specs.declared.Refusal.{Refusal}
use Rattle.definitions.specs.declared.SchemaCounts.{SchemaCounts}

module _ (report : List ℕ) {answer : OrRefusal ℕ} where
  pub count-refused : {r : Refusal} → answer ≡ Err r → report ≡ count_report report answer
  unfolding count_report
  count-refused e = rw e

  pub counted : {n : ℕ} → answer ≡ Ok n → {p : List ℕ} → p ≡ little_bytes 4 n → p ≡ count_report report answer
  unfolding count_report
  counted e s = s ∙ ap (count_report report) (sym e)

module _ (report : List ℕ) {answer : OrRefusal SchemaCounts} where
  pub schema-refused : {r : Refusal} → answer ≡ Err r → report ≡ schema_report report answer
  unfolding schema_report
  schema-refused e = rw e

  pub schema-told : {g : SchemaCounts} → answer ≡ Ok g → {p q : List ℕ} → p ≡ little_bytes 4 g.entries → q ≡ little_bytes 4 g.left_out
      → p ++ q ≡ schema_report report answer
  unfolding schema_report
  schema-told e s t = (λ i. s i ++ t i) ∙ ap (schema_report report) (sym e)
