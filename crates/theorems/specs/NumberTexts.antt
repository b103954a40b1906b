-- Document 02, Ask 1: which texts are numbers, and what str's texts of numbers read as.
--
--   Read a text of 1 to 40 bytes: an optional sign, digits, optionally a point with digits after it, optionally e or E with an optional sign and one or
--   two digits. With neither point nor exponent it is an integer, otherwise a decimal. The value must be exact. Where a text reads as a term, str's text
--   for that term reads as the same term.
use Rattle.std.specs.Prelude.{ℕ, ◌+◌, ◌*◌, ◌^◌, ◌≤◌, ◌≡◌, ◌⊎◌, ◌↔◌, [], ◌∷◌, ◌++◌, Bool, true, false, T, ℤ, nat_abs, length}
use Rattle.std.proofs.Math.Option.{Option, none, some}
use Rattle.definitions.specs.Limits.{number_text_limit}
use Rattle.definitions.specs.Lists.{every}
use Rattle.definitions.specs.Terms.{Text, Term, is_integer, is_decimal}
use Rattle.definitions.specs.Values.{million, Tagged, value_of, text_of}
use Rattle.definitions.specs.Numerals.{exponent_digits, Exponent, Numeral, is_digit, numeral_of, natural_of, fraction_digits, raised, lowered, term_of}
use Rattle.definitions.specs.Result.{passed}
use Rattle.definitions.specs.Calls.{number_call}

-- ── how a numeral is written ────────────────────────────────────────────────────────────────

pub record Digits (most : ℕ) (d : Text) : Type 0 where
  pub all : T (every is_digit d)
  pub some : 1 ≤ length d
  pub few : length d ≤ most

-- an optional sign, and whether it is a minus
pub data WritesSign : (minus : Bool) → Text → Type 0 where
  no_sign : WritesSign false []
  plus : WritesSign false (0x2B ∷ [])
  minus : WritesSign true (0x2D ∷ [])

-- optionally a point with digits after it
pub data WritesFraction : Option Text → Text → Type 0 where
  no-point : WritesFraction none []
  point : {d : Text} → Digits number_text_limit d → WritesFraction (some d) (0x2E ∷ d)

-- optionally e or E with an optional sign and one or two digits
pub data WritesExponent : Option Exponent → Text → Type 0 where
  no-exponent : WritesExponent none []
  exponent : {b : ℕ} {m : Bool} {s d : Text} → (b ≡ 0x65) ⊎ (b ≡ 0x45) → WritesSign m s → Digits exponent_digits d
      → WritesExponent (some (record { minus = m; digits = d })) (b ∷ s ++ d)

pub data Writes : Numeral → Text → Type 0 where
  parts : {m : Bool} {s w x y : Text} {f : Option Text} {e : Option Exponent} → WritesSign m s → Digits number_text_limit w → WritesFraction f x → WritesExponent e y
      → Writes (record { minus = m; whole = w; fraction = f; exponent = e }) (s ++ (w ++ (x ++ y)))

-- ── the statement ───────────────────────────────────────────────────────────────────────────

-- str's text for a term reads as that term
pub record ReadsBack (t : Term) : Type 0 where
  pub str : Tagged
  pub is : text_of (value_of t) ≡ some str
  pub reads : number_call str.text ≡ passed t

pub record NumberTexts : Type 0 where
  -- a text has a numeral exactly where that is written so, in 40 bytes at most
  pub form : (t : Text) (x : Numeral) → (numeral_of t ≡ some x) ↔ (Writes x t × (length t ≤ number_text_limit))
  -- a decimal's millionths, times the power of ten that divides, are the digits' number in millionths, times the power that multiplies
  pub exact : (x : Numeral) (n : ℤ) → term_of x ≡ some (Term.decimal n) → let d = fraction_digits x.fraction in
      nat_abs n * 10 ^ (length d + lowered x.exponent) ≡ natural_of (x.whole ++ d) * million * 10 ^ raised x.exponent
  -- for every integer and decimal term
  pub integers : (n : ℤ) → T (is_integer n) → ReadsBack (Term.integer n)
  pub decimals : (n : ℤ) → T (is_decimal n) → ReadsBack (Term.decimal n)
  -- and so for every text that reads as a term
  pub again : (text : Text) (t : Term) → number_call text ≡ passed t → ReadsBack t
