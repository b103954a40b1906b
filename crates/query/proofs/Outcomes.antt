-- A boolean's outcome that passes.
use mathlib.Core.Path.{◌≡◌, refl}
use mathlib.Core.Bool.{Bool, true, false}
use lib.Dec.{T}
use Rattle.definitions.specs.Outcome.{Outcome, ok, fault}
use Rattle.query.specs.Known.{passes}

pub passes-ok : (m : Outcome Bool) → T (passes m) → m ≡ ok true
passes-ok (ok true) h = refl
passes-ok (ok false) h = absurd h
passes-ok (fault x) h = absurd h

pub ok-passes : {m : Outcome Bool} {b : Bool} → m ≡ ok b → passes m ≡ b
ok-passes e = rw e refl
