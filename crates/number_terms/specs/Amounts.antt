-- The number that some of a text's digits write, and the term of a numeral by its parts.
use Rattle.std.specs.Prelude.{ℕ, zero, suc, ◌+◌, ◌*◌, ◌-◌, Bool, cond, eqb, leb, drop, get_or}
use Rattle.std.specs.Prelude.{Some, None}
use Rattle.std.specs.declared.option.Option as Answer
use Rattle.std.proofs.Math.Option.{Option}
use Rattle.definitions.specs.Lists.{every}
use Rattle.definitions.specs.Terms.{Text, Term}
use Rattle.definitions.specs.Numerals.{integer_term, decimal_term}

-- the digit at a place, 0 past the last
abbrev pub digit_of : Text → ℕ → ℕ
digit_of ds i = get_or ds i 0x30 - 0x30

-- the number that the first digits write
unfoldable pub front : Text → (keep : ℕ) → ℕ
front ds zero = 0
front ds (suc i) = front ds i * 10 + digit_of ds i

-- all digits after the first are 0
abbrev pub rest_zero : Text → (keep : ℕ) → Bool
rest_zero ds keep = every (eqb 0x30) (drop keep ds)

-- a number, if it is within a limit
unfoldable pub amount_of : (limit n : ℕ) → Answer.Option ℕ
amount_of limit n = cond (leb n limit) (Some n) None

-- the number that the first digits write, where no other digit counts
unfoldable pub whole_amount : (limit : ℕ) → Text → (keep : ℕ) → Answer.Option ℕ
whole_amount limit ds keep = cond (rest_zero ds keep) (amount_of limit (front ds keep)) None

-- the term of a mantissa times a power of ten
unfoldable pub term_with : (plain minus : Bool) → (m up down : ℕ) → Option Term
term_with plain minus m up down = cond plain (integer_term minus m) (decimal_term minus m up down)
