-- Numbers as values of the code: their kinds, and how they count in a result of a kind.
use Rattle.std.specs.Prelude.{ℕ, Bool, true, false, cond, ◌&&◌, eqb, ℤ, pos, ◌*ℤ◌, replicate}
use Rattle.std.proofs.Math.Option.{Option, none, some}
use Rattle.definitions.specs.Limits.{text_width, tag_width}
use Rattle.definitions.specs.Types.{Datatype, datatype_code}
use Rattle.definitions.specs.Terms.{is_integer, is_decimal}
use Rattle.definitions.specs.Values.{million}
use Rattle.values.specs.declared.Value.{Value}

abbrev pub numbered : (kind : ℕ) (present : Bool) → ℤ → Value
numbered k there n = record { kind = k; present = there; number = n; tag = replicate tag_width 0; text = replicate text_width 0 }

-- a number of a kind, or no value of that kind
unfoldable pub held : (kind : ℕ) → Option ℤ → Value
held k none = numbered k false (pos 0)
held k (some n) = numbered k true n

abbrev pub integer_code : ℕ
integer_code = datatype_code Datatype.integer

abbrev pub decimal_code : ℕ
decimal_code = datatype_code Datatype.decimal

-- within the limits of its kind
abbrev pub in_kind : (kind : ℕ) → ℤ → Bool
in_kind k n = cond (eqb k integer_code) (is_integer n) (is_decimal n)

-- integer with integer gives an integer, else a decimal
abbrev pub common_kind : ℕ → ℕ → ℕ
common_kind a b = cond (eqb a integer_code && eqb b integer_code) integer_code decimal_code

-- a number of a kind in a result of a kind
abbrev pub counted_in : (from to : ℕ) → ℤ → ℤ
counted_in from to n = cond (eqb from integer_code && eqb to decimal_code) (n *ℤ pos million) n
