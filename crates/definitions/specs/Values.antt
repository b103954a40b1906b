-- Document 01, "Values": what expressions give, a value of a kind or "no value" of that kind; arithmetic, str and comparisons.
use Rattle.std.specs.Prelude.{ℕ, zero, suc, ◌+◌, ◌-◌, ◌/◌, ◌%◌, ◌^◌, List, [], ◌∷◌, ◌++◌, Bool, true, false, ◌&&◌, ◌||◌, ltb, eqb, ℤ, pos, negsuc, nat_abs, ◌+ℤ◌, ◌-ℤ◌, ◌*ℤ◌, get_or}
use Rattle.std.proofs.Math.Option.{Option, none, some}
use Rattle.std.specs.Int.Signed.{lt_z}
use Rattle.definitions.specs.Alphabet.{first_byte}
use Rattle.definitions.specs.Ascii.{ascii}
use Rattle.definitions.specs.Bytes.{same_bytes, provided}
use Rattle.definitions.specs.Terms.{Term, Text, is_integer, is_decimal, same_number}
use Rattle.definitions.specs.Calendar.{digits, date_time_text}
use Rattle.definitions.specs.Outcome.{Outcome, ok, fault, ◌>>=◌, arithmetic_on_no_number, nothing_in_common, text_test_on_no_string}
use Rattle.definitions.specs.Truth.{truth_of}
use Rattle.definitions.specs.declared.Truth.{Truth}
use Rattle.definitions.specs.declared.Truth.TheVariants.{Unknown}

-- a string's tag and text
pub record Tagged : Type 0 where
  pub tag : Text
  pub text : Text

-- none: "no value" of that kind
pub data Value : Type 0 where
  uri : Text → Value
  string : Option Tagged → Value
  integer : Option ℤ → Value
  decimal : (millionths : Option ℤ) → Value
  date_time : (seconds : ℤ) → Value

unfoldable pub value_of : Term → Value
value_of (Term.uri u) = Value.uri u
value_of (Term.string g t) = Value.string (some (record { tag = g; text = t }))
value_of (Term.integer n) = Value.integer (some n)
value_of (Term.decimal n) = Value.decimal (some n)
value_of (Term.date_time n) = Value.date_time n

-- ── arithmetic ──────────────────────────────────────────────────────────────────────────────

abbrev pub million : ℕ
million = 10 ^ 6

-- what arithmetic sees in a value
pub data Number : Type 0 where
  whole : Option ℤ → Number
  millionths : Option ℤ → Number

unfoldable pub number_in : Value → Outcome Number
number_in (Value.uri u) = fault arithmetic_on_no_number
number_in (Value.string s) = fault arithmetic_on_no_number
number_in (Value.integer n) = ok (whole n)
number_in (Value.decimal n) = ok (millionths n)
number_in (Value.date_time n) = fault arithmetic_on_no_number

-- an integer as a decimal
abbrev pub widened : Option ℤ → Option ℤ
widened none = none
widened (some n) = some (n *ℤ pos million)

-- a result outside its kind's limits is no value, and so is anything of no value
unfoldable pub lifted : (ℤ → Bool) → (ℤ → ℤ) → Option ℤ → Option ℤ
lifted within f none = none
lifted within f (some n) = provided (within (f n)) (some (f n))

unfoldable pub lifted₂ : (ℤ → Bool) → (ℤ → ℤ → ℤ) → Option ℤ → Option ℤ → Option ℤ
lifted₂ within f none b = none
lifted₂ within f (some a) none = none
lifted₂ within f (some a) (some b) = provided (within (f a b)) (some (f a b))

-- integer with integer gives an integer, else a decimal
abbrev pub combine : (ℤ → ℤ → ℤ) → Number → Number → Value
combine f (whole a) (whole b) = Value.integer (lifted₂ is_integer f a b)
combine f (whole a) (millionths b) = Value.decimal (lifted₂ is_decimal f (widened a) b)
combine f (millionths a) (whole b) = Value.decimal (lifted₂ is_decimal f a (widened b))
combine f (millionths a) (millionths b) = Value.decimal (lifted₂ is_decimal f a b)

abbrev pub distance : Number → Value
distance (whole a) = Value.integer (lifted is_integer (λ n. pos (nat_abs n)) a)
distance (millionths a) = Value.decimal (lifted is_decimal (λ n. pos (nat_abs n)) a)

unfoldable pub sum : Value → Value → Outcome Value
sum a b = do
  m ← number_in a
  n ← number_in b
  ok (combine ◌+ℤ◌ m n)

unfoldable pub difference : Value → Value → Outcome Value
difference a b = do
  m ← number_in a
  n ← number_in b
  ok (combine ◌-ℤ◌ m n)

unfoldable pub absolute : Value → Outcome Value
absolute a = do
  n ← number_in a
  ok (distance n)

-- ── str ─────────────────────────────────────────────────────────────────────────────────────

-- a number's digits, with no needless zero in front; `left` bounds their number
unfoldable pub short_digits : (left : ℕ) → ℕ → Text
short_digits zero n = []
short_digits (suc left) n =
    elim (ltb n 10) [
      | true ↦ (0x30 + n) ∷ []
      | false ↦ short_digits left (n / 10) ++ ((0x30 + n % 10) ∷ [])
    ]

-- without needless zeros; 20 digits are enough for every number here (`laws`, `Digits.digits-enough`)
unfoldable pub natural_text : ℕ → Text
natural_text n = short_digits 20 n

unfoldable pub sign_text : ℤ → Text
sign_text (pos n) = []
sign_text (negsuc n) = ascii "-"

-- an integer's digits (-3)
unfoldable pub integer_text : ℤ → Text
integer_text z = sign_text z ++ natural_text (nat_abs z)

-- a fraction of n digits, with at least one digit and no needless zero
unfoldable pub fraction_text : (n : ℕ) → ℕ → Text
fraction_text zero m = ascii "0"
fraction_text (suc zero) m = digits 1 m
fraction_text (suc (suc n)) m =
    elim (eqb (m % 10) 0) [
      | true ↦ fraction_text (suc n) (m / 10)
      | false ↦ digits (suc (suc n)) m
    ]

-- a decimal with at least one digit on both sides of the point (-0.5, 3.0)
unfoldable pub decimal_text : (millionths : ℤ) → Text
decimal_text z = sign_text z ++ (natural_text (nat_abs z / million) ++ (ascii "." ++ fraction_text 6 (nat_abs z % million)))

abbrev pub untagged : Text → Option Tagged
untagged t = some (record { tag = []; text = t })

-- a URI's or string's text without tag
unfoldable pub text_of : Value → Option Tagged
text_of (Value.uri u) = untagged u
text_of (Value.string none) = none
text_of (Value.string (some s)) = untagged s.text
text_of (Value.integer none) = none
text_of (Value.integer (some n)) = untagged (integer_text n)
text_of (Value.decimal none) = none
text_of (Value.decimal (some n)) = untagged (decimal_text n)
text_of (Value.date_time n) = untagged (date_time_text n)

-- ── the order of strings ────────────────────────────────────────────────────────────────────

unfoldable pub rank_in : (ranks : List ℕ) → ℕ → ℕ
rank_in ranks b = get_or ranks (b - first_byte) 0

-- in order by a rank of the elements; the end comes first
unfoldable pub before : (rank : ℕ → ℕ) → List ℕ → List ℕ → Bool
before rank [] [] = false
before rank [] (b ∷ t) = true
before rank (a ∷ s) [] = false
before rank (a ∷ s) (b ∷ t) = ltb (rank a) (rank b) || (eqb (rank a) (rank b) && before rank s t)

-- by text, then tag, under ranks
unfoldable pub string_before : (ranks : List ℕ) → Tagged → Tagged → Bool
string_before ranks a b =
    before (rank_in ranks) a.text b.text || (same_bytes a.text b.text && before (rank_in ranks) a.tag b.tag)

-- ── equal and less ──────────────────────────────────────────────────────────────────────────

-- two values with a common datatype; numbers in millionths
pub data Pair : Type 0 where
  uris : Text → Text → Pair
  strings : Option Tagged → Option Tagged → Pair
  numbers : Option ℤ → Option ℤ → Pair
  date_times : ℤ → ℤ → Pair

abbrev pub with_uri : Text → Value → Outcome Pair
with_uri a (Value.uri b) = ok (uris a b)
with_uri a (Value.string b) = fault nothing_in_common
with_uri a (Value.integer b) = fault nothing_in_common
with_uri a (Value.decimal b) = fault nothing_in_common
with_uri a (Value.date_time b) = fault nothing_in_common

abbrev pub with_string : Option Tagged → Value → Outcome Pair
with_string a (Value.uri b) = fault nothing_in_common
with_string a (Value.string b) = ok (strings a b)
with_string a (Value.integer b) = fault nothing_in_common
with_string a (Value.decimal b) = fault nothing_in_common
with_string a (Value.date_time b) = fault nothing_in_common

abbrev pub with_number : Option ℤ → Value → Outcome Pair
with_number a (Value.uri b) = fault nothing_in_common
with_number a (Value.string b) = fault nothing_in_common
with_number a (Value.integer b) = ok (numbers a (widened b))
with_number a (Value.decimal b) = ok (numbers a b)
with_number a (Value.date_time b) = fault nothing_in_common

abbrev pub with_date_time : ℤ → Value → Outcome Pair
with_date_time a (Value.uri b) = fault nothing_in_common
with_date_time a (Value.string b) = fault nothing_in_common
with_date_time a (Value.integer b) = fault nothing_in_common
with_date_time a (Value.decimal b) = fault nothing_in_common
with_date_time a (Value.date_time b) = ok (date_times a b)

unfoldable pub paired : Value → Value → Outcome Pair
paired (Value.uri a) b = with_uri a b
paired (Value.string a) b = with_string a b
paired (Value.integer a) b = with_number (widened a) b
paired (Value.decimal a) b = with_number a b
paired (Value.date_time a) b = with_date_time a b

-- a comparison that holds no value is unknown
unfoldable pub present : {A : Type 0} → (A → A → Bool) → Option A → Option A → Truth
present f none b = Unknown
present f (some a) none = Unknown
present f (some a) (some b) = truth_of (f a b)

unfoldable pub same_tagged : Tagged → Tagged → Bool
same_tagged a b = same_bytes a.tag b.tag && same_bytes a.text b.text

-- equal on strings compares tag and text; numbers compare by amount, date_times by seconds
unfoldable pub equal_pair : Pair → Truth
equal_pair (uris a b) = truth_of (same_bytes a b)
equal_pair (strings a b) = present same_tagged a b
equal_pair (numbers a b) = present same_number a b
equal_pair (date_times a b) = truth_of (same_number a b)

-- less on strings goes by the ranks that are lent, URIs go by bytes
unfoldable pub less_pair : (ranks : List ℕ) → Pair → Truth
less_pair ranks (uris a b) = truth_of (before (λ n. n) a b)
less_pair ranks (strings a b) = present (string_before ranks) a b
less_pair ranks (numbers a b) = present lt_z a b
less_pair ranks (date_times a b) = truth_of (lt_z a b)

-- ── regex and lang_matches want a string ─────────────────────────────────────────────────────

unfoldable pub string_in : Value → Outcome (Option Tagged)
string_in (Value.uri u) = fault text_test_on_no_string
string_in (Value.string s) = ok s
string_in (Value.integer n) = fault text_test_on_no_string
string_in (Value.decimal n) = fault text_test_on_no_string
string_in (Value.date_time n) = fault text_test_on_no_string

-- a test that holds no value is unknown
unfoldable pub truth_in : (Tagged → Bool) → Option Tagged → Truth
truth_in f none = Unknown
truth_in f (some s) = truth_of (f s)
