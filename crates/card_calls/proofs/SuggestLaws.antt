-- The suggest call: the refusal of reading, or what is suggested for the script that is read.
use Rattle.std.specs.Prelude.{Err}
use Rattle.definitions.specs.Result.{OrRefusal}
use Rattle.definitions.specs.declared.Refusal.{Refusal}
use Prim.Native.Nat.{ℕ}
use mathlib.Core.Path.{◌≡◌, ◌∙◌}
use mathlib.Core.List.{List}
use mathlib.Core.Option.{some}
use lib.ListN.{length, take}
use Rattle.definitions.specs.Tree.{Script}
use Rattle.definitions.specs.Reading.{parsed}
use Rattle.definitions.specs.Typing.{written_types}
use Rattle.definitions.specs.Result.{refused, passed}
use Rattle.definitions.specs.Calls.{Parsed, read_tests, suggest_for, suggest_result, suggest}
use Rattle.definitions.specs.declared.Suggested.{Suggested}
use Rattle.definitions.specs.declared.Suggested.TheVariants as Suggests
use Rattle.facts.specs.Codes.{sorts_in}
use Rattle.card.specs.Check.{CodedOf}
use Rattle.card.specs.declared.refusals.Ready.{Ready}
use Rattle.card.proofs.CodedLaws.{of-terms}

module _ (terms schema script : List ℕ) where
  pub suggest-refused : {n : Refusal} → read_tests terms schema script ≡ refused n → Err n ≡ suggest terms schema script
  unfolding suggest suggest_result
  suggest-refused e = rw e

  pub suggest-told : (r : Ready) {table leasts : List ℕ} (told : (x : Parsed) × (read_tests terms schema script ≡ passed x) × CodedOf schema table leasts x r)
      → {a : OrRefusal Suggested} → ((root : Script) → parsed (length (take r.count leasts)) script ≡ some root
      → a ≡ suggest_for (sorts_in (take r.count leasts)) (written_types root) root)
      → a ≡ suggest terms schema script
  unfolding suggest suggest_result
  suggest-told r told e = rw told.1 (of-terms terms schema script r told (λ constants root. suggest_for constants (written_types root) root) e)
