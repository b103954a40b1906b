-- Document 02, Ask 1: numbers as makers print them, and the term that each reads as.
use Rattle.std.specs.Prelude.{ℕ, ◌+◌, ◌*◌, ◌-◌, ◌/◌, ◌%◌, ◌^◌, [], ◌∷◌, ◌++◌, Bool, true, false, cond, ◌||◌, eqb, leb, ℤ, pos, neg_ℤ, length, drop}
use Rattle.std.proofs.Math.Option.{Option, none, some}
use Rattle.definitions.specs.Limits.{number_text_limit}
use Rattle.definitions.specs.Bytes.{byte, Got, provided, onward}
use Rattle.definitions.specs.Terms.{Text, Term, between, is_integer, is_decimal, limited_term}
use Rattle.definitions.specs.Values.{million}

-- ── the form ────────────────────────────────────────────────────────────────────────────────

-- e or E with an optional sign and one or two digits
pub record Exponent : Type 0 where
  pub minus : Bool
  pub digits : Text

abbrev pub exponent_digits : ℕ
exponent_digits = 2

-- an optional sign, digits, optionally a point with digits after it, optionally an exponent
pub record Numeral : Type 0 where
  pub minus : Bool
  pub whole : Text
  pub fraction : Option Text
  pub exponent : Option Exponent

-- `+` or `-`; `.`; `e` or `E`
abbrev pub is_sign : ℕ → Bool
is_sign b = eqb b 0x2B || eqb b 0x2D

abbrev pub is_minus : ℕ → Bool
is_minus b = eqb b 0x2D

abbrev pub is_point : ℕ → Bool
is_point b = eqb b 0x2E

abbrev pub is_e : ℕ → Bool
is_e b = eqb b 0x65 || eqb b 0x45

unfoldable pub is_digit : ℕ → Bool
is_digit b = between 0x30 0x39 b

-- the digits at the front of a text
unfoldable pub leading : Text → Text
leading [] = []
leading (b ∷ t) = elim (is_digit b) [ true ↦ b ∷ leading t | false ↦ [] ]

-- the offset after a sign, if there is one
unfoldable pub after_sign : Text → ℕ → ℕ
after_sign t at = cond (is_sign (byte t at)) (at + 1) at

-- the digits from an offset on, one at least and at most so many
unfoldable pub digits_at : (most : ℕ) → Text → ℕ → Got Text
digits_at most t at =
    let d = leading (drop at t) in
    provided (between 1 most (length d)) (some (d, at + length d))

unfoldable pub fraction_at : Text → ℕ → Got (Option Text)
fraction_at t at =
    cond (is_point (byte t at))
    (onward (digits_at number_text_limit t (at + 1)) (λ d. some (some d.0, d.1)))
    (some (none, at))

unfoldable pub exponent_at : Text → ℕ → Got (Option Exponent)
exponent_at t at =
    cond (is_e (byte t at))
    (onward (digits_at exponent_digits t (after_sign t (at + 1))) (λ d. some (some (record { minus = is_minus (byte t (at + 1)); digits = d.0 }), d.1)))
    (some (none, at))

-- 1 to 40 bytes of this form, and nothing after it
unfoldable pub numeral_of : Text → Option Numeral
numeral_of t =
    provided (leb (length t) number_text_limit)
    (onward (digits_at number_text_limit t (after_sign t 0)) (λ w.
    onward (fraction_at t w.1) (λ f.
    onward (exponent_at t f.1) (λ e.
    provided (eqb e.1 (length t))
    (some (record { minus = is_minus (byte t 0); whole = w.0; fraction = f.0; exponent = e.0 }))))))

-- ── the value ───────────────────────────────────────────────────────────────────────────────

-- the number that digits write
unfoldable pub natural_of : Text → ℕ
natural_of [] = 0
natural_of (b ∷ t) = (b - 0x30) * 10 ^ length t + natural_of t

-- the digits after the point
abbrev pub fraction_digits : Option Text → Text
fraction_digits none = []
fraction_digits (some d) = d

-- by how many places the exponent moves the point to the right, and to the left
abbrev pub raised : Option Exponent → ℕ
raised none = 0
raised (some e) = cond e.minus 0 (natural_of e.digits)

abbrev pub lowered : Option Exponent → ℕ
lowered none = 0
lowered (some e) = cond e.minus (natural_of e.digits) 0

-- minus zero is zero
unfoldable pub with_sign : (minus : Bool) → ℕ → ℤ
with_sign minus n = cond minus (neg_ℤ (pos n)) (pos n)

-- within the limits of its kind
unfoldable pub integer_term : (minus : Bool) → ℕ → Option Term
integer_term minus n = limited_term is_integer Term.integer (with_sign minus n)

-- m · 10^up / 10^down, where that is a whole count of millionths
unfoldable pub decimal_term : (minus : Bool) → (m up down : ℕ) → Option Term
decimal_term minus m up down =
    let count = m * million * 10 ^ up in
    provided (eqb (count % 10 ^ down) 0) (limited_term is_decimal Term.decimal (with_sign minus (count / 10 ^ down)))

-- with neither point nor exponent it is an integer, otherwise a decimal
abbrev pub is_plain : Option Text → Option Exponent → Bool
is_plain none none = true
is_plain none (some e) = false
is_plain (some d) e = false

unfoldable pub term_of : Numeral → Option Term
term_of n =
    let fraction = fraction_digits n.fraction in
    let m = natural_of (n.whole ++ fraction) in
    cond (is_plain n.fraction n.exponent)
    (integer_term n.minus m)
    (decimal_term n.minus m (raised n.exponent) (length fraction + lowered n.exponent))
