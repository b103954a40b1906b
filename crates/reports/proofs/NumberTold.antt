-- A number's answer has the number of what it tells.
use mathlib.Core.Path.{◌≡◌, refl}
use Rattle.std.specs.Prelude.{Ok, Err}
use Rattle.definitions.specs.Result.{OrRefusal}
use Rattle.definitions.specs.Numbers.{answer_number, result_number, term_read}
use Rattle.definitions.specs.declared.Number.{Number}

pub number-told : (a : OrRefusal Number) → answer_number a ≡ result_number (term_read a)
number-told (Ok n) = refl
number-told (Err r) = refl
