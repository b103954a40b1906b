-- The report of a run, by the cases of its answer.
use Prim.Native.Nat.{ℕ}
use mathlib.Core.Path.{◌≡◌, ap, sym, ◌∙◌}
use mathlib.Core.List.{List, ◌∷◌, ◌++◌}
use Rattle.definitions.specs.Bytes.{little_bytes}
use Rattle.definitions.specs.Numbers.{state_number, wanted_graph}
use Rattle.definitions.specs.Exports.{run_report}
use Rattle.definitions.specs.declared.RunEnd.{RunEnd}
use Rattle.definitions.specs.declared.Refusal.{Refusal}
use Rattle.definitions.specs.Result.{OrRefusal}
use Rattle.std.specs.Prelude.{Ok, Err}

module _ (report : List ℕ) {answer : OrRefusal RunEnd} where
  pub run-refused : {r : Refusal} → answer ≡ Err r → report ≡ run_report report answer
  unfolding run_report
  run-refused e = rw e

  pub ran : {e : RunEnd} → answer ≡ Ok e → {p q : List ℕ} {x g : ℕ}
      → p ≡ little_bytes 4 e.steps → x ≡ state_number e.state → q ≡ little_bytes 2 g → g ≡ wanted_graph e.state → p ++ (x ∷ 0 ∷ q) ≡ run_report report answer
  unfolding run_report
  ran e s t g w = (λ k. s k ++ (t k ∷ 0 ∷ (g ∙ ap (little_bytes 2) w) k)) ∙ ap (run_report report) (sym e)
