-- The kinds of a value, and what a value means at each.
use mathlib.Core.Bool.{Bool, true, false}
use mathlib.Core.Path.{◌≡◌, refl}
use lib.Dec.{eqb}
use borrow.Author.Tests.{eqb-true, eqb-false, ne_eqb}
use Rattle.definitions.specs.Bytes.{unfilled}
use Rattle.definitions.specs.Values.{Value as Meant}
use Rattle.values.specs.declared.Value.{Value}
use Rattle.values.specs.Meaning.{meaning, number_of, tagged_of}

pub data View (v : Value) : Type 0 where
  as-integer : v.kind ≡ 5 → meaning v ≡ Meant.integer (number_of v) → View v
  as-decimal : v.kind ≡ 3 → meaning v ≡ Meant.decimal (number_of v) → View v
  as-date_time : v.kind ≡ 4 → meaning v ≡ Meant.date_time v.number → View v
  as-string : v.kind ≡ 2 → meaning v ≡ Meant.string (tagged_of v) → View v
  as-uri : (v.kind ≡ 5 → ⊥) → (v.kind ≡ 3 → ⊥) → (v.kind ≡ 4 → ⊥) → (v.kind ≡ 2 → ⊥) → meaning v ≡ Meant.uri (unfilled v.text) → View v

module _ (v : Value) where
  pub integer-means : v.kind ≡ 5 → meaning v ≡ Meant.integer (number_of v)
  unfolding meaning
  integer-means e = rw e

  pub decimal-means : v.kind ≡ 3 → meaning v ≡ Meant.decimal (number_of v)
  unfolding meaning
  decimal-means e = rw e

  pub date_time-means : v.kind ≡ 4 → meaning v ≡ Meant.date_time v.number
  unfolding meaning
  date_time-means e = rw e

  pub string-means : v.kind ≡ 2 → meaning v ≡ Meant.string (tagged_of v)
  unfolding meaning
  string-means e = rw e

  pub uri-means : (v.kind ≡ 5 → ⊥) → (v.kind ≡ 3 → ⊥) → (v.kind ≡ 4 → ⊥) → (v.kind ≡ 2 → ⊥) → meaning v ≡ Meant.uri (unfilled v.text)
  unfolding meaning
  uri-means n₅ n₃ n₄ n₂ = rw (ne_eqb v.kind 5 n₅, ne_eqb v.kind 3 n₃, ne_eqb v.kind 4 n₄, ne_eqb v.kind 2 n₂)

  pub view : View v
  view = five (eqb v.kind 5) refl
    where
      two : (v.kind ≡ 5 → ⊥) → (v.kind ≡ 3 → ⊥) → (v.kind ≡ 4 → ⊥) → (t : Bool) → eqb v.kind 2 ≡ t → View v
      two a b c true e = let k = eqb-true v.kind 2 e in as-string k (string-means k)
      two a b c false e = let k = eqb-false v.kind 2 e in as-uri a b c k (uri-means a b c k)

      four : (v.kind ≡ 5 → ⊥) → (v.kind ≡ 3 → ⊥) → (t : Bool) → eqb v.kind 4 ≡ t → View v
      four a b true e = let k = eqb-true v.kind 4 e in as-date_time k (date_time-means k)
      four a b false e = two a b (eqb-false v.kind 4 e) (eqb v.kind 2) refl

      three : (v.kind ≡ 5 → ⊥) → (t : Bool) → eqb v.kind 3 ≡ t → View v
      three a true e = let k = eqb-true v.kind 3 e in as-decimal k (decimal-means k)
      three a false e = four a (eqb-false v.kind 3 e) (eqb v.kind 4) refl

      five : (t : Bool) → eqb v.kind 5 ≡ t → View v
      five true e = let k = eqb-true v.kind 5 e in as-integer k (integer-means k)
      five false e = three (eqb-false v.kind 5 e) (eqb v.kind 3) refl
