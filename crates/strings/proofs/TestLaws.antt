-- A test of a string: unknown of no value, and of nothing but strings.
use mathlib.Core.Bool.{Bool, true, false}
use mathlib.Core.Path.{◌≡◌, refl, ap, ◌∙◌}
use Rattle.definitions.specs.Outcome.{◌>>=◌}
use Rattle.definitions.specs.Values.{Tagged, string_in, truth_in}
use Rattle.definitions.specs.Truth.{truth_of}
use Rattle.definitions.specs.declared.Truth.{Truth}
use Rattle.truth.specs.Told.{told_of}
use Rattle.values.specs.declared.Value.{Value}
use Rattle.values.specs.Meaning.{meaning, where?, string_of, Tells, text_test}
use Rattle.laws.proofs.NoFault.{ok-is, no-fault}
use Rattle.values.proofs.KindLaws.{View, view, as-integer, as-decimal, as-date_time, as-string, as-uri}

module _ (test : Tagged → Bool) (v : Value) (t : Bool) (e : t ≡ test (string_of v)) where
  held : (p : Bool) → told_of p t ≡ truth_in test (where? p (string_of v))
  unfolding truth_in
  held true = ap truth_of e
  held false = refl

  pub tells-text : {r : Truth} → r ≡ told_of v.present t → Tells r (text_test test (meaning v))
  unfolding text_test ◌>>=◌ string_in
  tells-text {r} told b h = go (view v)
    where
      go : View v → r ≡ b
      go (as-string k m) = told ∙ (held v.present ∙ ok-is (rw m at h))
      go (as-integer k m) = absurd (no-fault (rw m at h))
      go (as-decimal k m) = absurd (no-fault (rw m at h))
      go (as-date_time k m) = absurd (no-fault (rw m at h))
      go (as-uri p q r s m) = absurd (no-fault (rw m at h))
