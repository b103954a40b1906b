-- What a value of the code means in document 01's terms, and what holds of every one that the code makes.
use Rattle.std.specs.Prelude.{ℕ, ◌≡◌, List, [], ◌∷◌, Bool, cond, T, ℤ, length}
use Rattle.std.proofs.Math.Option.{Option, none, some}
use Rattle.definitions.specs.Limits.{text_width, tag_width}
use Rattle.definitions.specs.Lists.{every}
use Rattle.definitions.specs.Bytes.{row, filled, unfilled}
use Rattle.definitions.specs.Types.{Datatype, datatype_code}
use Rattle.definitions.specs.Terms.{text_byte, tag_byte, is_integer, is_decimal, is_date_time}
use Rattle.definitions.specs.Outcome.{Outcome, ok, ◌>>=◌}
use Rattle.definitions.specs.Values.{Tagged, Pair, paired, string_in, truth_in, Value as Meant}
use Rattle.definitions.specs.declared.Truth.{Truth}
use Rattle.values.specs.declared.Value.{Value}

-- what is there, or no value
abbrev pub where? : {A : Type 0} → Bool → A → Option A
where? there a = cond there (some a) none

abbrev pub number_of : Value → Option ℤ
number_of v = where? v.present v.number

abbrev pub string_of : Value → Tagged
string_of v = record { tag = unfilled v.tag; text = unfilled v.text }

abbrev pub tagged_of : Value → Option Tagged
tagged_of v = where? v.present (string_of v)

-- by the kind, document 01's code of a datatype; any other number counts as a URI's
unfoldable pub meaning : Value → Meant
meaning v =
    row v.kind
    ((datatype_code Datatype.integer, Meant.integer (number_of v))
    ∷ (datatype_code Datatype.decimal, Meant.decimal (number_of v))
    ∷ (datatype_code Datatype.date_time, Meant.date_time v.number)
    ∷ (datatype_code Datatype.string, Meant.string (tagged_of v))
    ∷ [])
    (Meant.uri (unfilled v.text))

-- a field of text bytes of a kind, filled with zeros
pub record Field (ok : ℕ → Bool) (width : ℕ) (field : List ℕ) : Type 0 where
  pub size : length field ≡ width
  pub bytes : T (every ok (unfilled field))
  pub whole : filled width (unfilled field) ≡ field

-- the number lies within the limits of the kind
pub record Good (v : Value) : Type 0 where
  pub number : T (is_decimal v.number)
  pub integer : v.kind ≡ datatype_code Datatype.integer → T (is_integer v.number)
  pub date_time : v.kind ≡ datatype_code Datatype.date_time → T (is_date_time v.number)
  pub tag : Field tag_byte tag_width v.tag
  pub text : Field text_byte text_width v.text

-- wherever a definition meets no fault, the code gives its value
pub record Gives (r : Value) (o : Outcome Meant) : Type 0 where
  pub good : Good r
  pub is : (v : Meant) → o ≡ ok v → meaning r ≡ v

abbrev pub Tells : {A : Type 0} → A → Outcome A → Type 0
Tells {A} r o = (b : A) → o ≡ ok b → r ≡ b

-- a test of two values with a common datatype
unfoldable pub compared : (Pair → Truth) → Meant → Meant → Outcome Truth
compared test a b = do
  p ← paired a b
  ok (test p)

-- a test of a string
unfoldable pub text_test : (Tagged → Bool) → Meant → Outcome Truth
text_test test a = do
  s ← string_in a
  ok (truth_in test s)
