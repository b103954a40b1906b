-- What is told of tests: how a refusal is handed on.
use mathlib.Core.Path.{◌≡◌, sym, subst}
use Rattle.std.specs.Prelude.{Err}
use Rattle.definitions.specs.declared.Refusal.{Refusal}
use Rattle.definitions.specs.Result.{Result, refused, OrRefusal}
use Rattle.card.specs.Check.{Tells}

pub told-refusal : {A B : Type 0} (says : A → B → Type 0) (tests : Result A) {r : OrRefusal B} {n : Refusal} → r ≡ Err n → tests ≡ refused n → Tells says tests r
told-refusal says tests e h = subst (Tells says tests) (sym e) h
