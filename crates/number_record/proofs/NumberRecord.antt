-- The record of a number, by the cases of its answer.
use Prim.Native.Nat.{ℕ, ◌^◌, ◌<◌}
use mathlib.Core.Path.{◌≡◌, ◌∙◌}
use mathlib.Core.List.{List, ◌∷◌}
use Rattle.definitions.specs.Bytes.{little_bytes}
use Rattle.definitions.specs.Limits.{number_width}
use Rattle.definitions.specs.Terms.{body_of}
use Rattle.definitions.specs.Numbers.{term_read}
use Rattle.definitions.specs.Exports.{record_after}
use Rattle.definitions.specs.declared.Number.{Number}
use Rattle.definitions.specs.declared.Refusal.{Refusal}
use Rattle.definitions.specs.Result.{OrRefusal}
use Rattle.std.specs.Prelude.{Ok, Err}
use Rattle.laws.proofs.Bytes.{unsigned_signed}
use Rattle.definitions.specs.declared.Number.TheVariants as Numbers

module _ (lent : List ℕ) {answer : OrRefusal Number} where
  pub number-refused : {r : Refusal} → answer ≡ Err r → lent ≡ record_after lent (term_read answer)
  unfolding record_after
  number-refused e = rw e

  pub integer-written : {a : Number} {n : ℕ} → answer ≡ Ok a → a ≡ Numbers.Integer n → n < 2 ^ 64 → {p : List ℕ} → p ≡ 0x13 ∷ little_bytes number_width n → p ≡ record_after lent (term_read answer)
  unfolding record_after body_of
  integer-written e f l w = w ∙ rw (e, f, unsigned_signed _ l)

  pub decimal-written : {a : Number} {n : ℕ} → answer ≡ Ok a → a ≡ Numbers.Decimal n → n < 2 ^ 64 → {p : List ℕ} → p ≡ 0x14 ∷ little_bytes number_width n → p ≡ record_after lent (term_read answer)
  unfolding record_after body_of
  decimal-written e f l w = w ∙ rw (e, f, unsigned_signed _ l)
