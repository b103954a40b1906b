-- The report of a suggestion, by the cases of its answer.
use Prim.Native.Nat.{ℕ}
use mathlib.Core.Path.{◌≡◌, ap, sym, ◌∙◌, refl}
use mathlib.Core.List.{List, ◌∷◌, []}
use Rattle.definitions.specs.Limits.{suggest_report_width}
use Rattle.definitions.specs.Exports.{suggested_bytes, suggest_report}
use native.Mathlib.Omega.{arith}
use lib.ListN.{length, set}
use Rattle.definitions.specs.declared.Suggested.{Suggested}
use Rattle.definitions.specs.declared.Refusal.{Refusal}
use Rattle.definitions.specs.Result.{OrRefusal}
use Rattle.std.specs.Prelude.{Ok, Err}

pub three : (l : List ℕ) (a b c : ℕ) → length l ≡ suggest_report_width → set (set (set (set l 0 a) 1 b) 2 c) 3 0 ≡ a ∷ b ∷ c ∷ 0 ∷ []
three [] a b c e = absurd (omega arith)
three (w ∷ []) a b c e = absurd (omega arith)
three (w ∷ x ∷ []) a b c e = absurd (omega arith)
three (w ∷ x ∷ y ∷ []) a b c e = absurd (omega arith)
three (w ∷ x ∷ y ∷ z ∷ []) a b c e = refl
three (w ∷ x ∷ y ∷ z ∷ v ∷ l) a b c e = absurd (omega arith)

module _ (report : List ℕ) {answer : OrRefusal Suggested} where
  pub suggest-refused : {r : Refusal} → answer ≡ Err r → report ≡ suggest_report report answer
  unfolding suggest_report
  suggest-refused e = rw e

  pub suggest-told : {a s : Suggested} → answer ≡ Ok a → a ≡ s → {p : List ℕ} → p ≡ suggested_bytes s → p ≡ suggest_report report answer
  unfolding suggest_report
  suggest-told e f h = h ∙ (ap suggested_bytes (sym f) ∙ ap (suggest_report report) (sym e))
