-- What the code answers of a number's parts.
use Rattle.std.specs.Prelude.{ℕ, ◌+◌, ◌^◌, ◌≤◌, cond, T, ltb, length}
use Rattle.std.specs.Prelude.{Some, None}
use Rattle.std.specs.declared.option.Option as Answer
use Rattle.std.proofs.Math.Option.{Option, none, some}
use Rattle.definitions.specs.Limits.{number_text_limit}
use Rattle.definitions.specs.Lists.{every}
use Rattle.definitions.specs.Bytes.{Got}
use Rattle.definitions.specs.Terms.{Text}
use Rattle.definitions.specs.Numerals.{exponent_digits, Exponent, is_digit, raised, lowered}
use Rattle.number_parts.specs.declared.Shift.{Shift}

-- digits, no more than a number's text has bytes
pub record Digits (d : Text) : Type 0 where
  pub all : T (every is_digit d)
  pub few : length d ≤ number_text_limit

-- where the digits of a fraction begin, by where it begins and ends; it has none where these are one offset
abbrev pub after_point : (point tail : ℕ) → ℕ
after_point point tail = cond (ltb point tail) (point + 1) point

-- an exponent moves the point by fewer places
abbrev pub places_limit : ℕ
places_limit = 10 ^ exponent_digits

-- how far an exponent that was read moves the point to the right and to the left, and the offset after it
unfoldable pub shift_of : Got (Option Exponent) → Answer.Option Shift
shift_of none = None
shift_of (some e) = Some (record { up = raised e.0; down = lowered e.0; after = e.1 })
