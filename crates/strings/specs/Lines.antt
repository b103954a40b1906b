-- A line of the code: a text in a field, and the text's length.
use Rattle.std.specs.Prelude.{ℕ, ◌+◌, ◌%◌, ◌≤◌, ◌≡◌, ◌++◌, T, length}
use Rattle.definitions.specs.Limits.{text_width}
use Rattle.definitions.specs.Lists.{every}
use Rattle.definitions.specs.Bytes.{filled}
use Rattle.definitions.specs.Terms.{Text, text_byte}
use Rattle.strings.specs.declared.line.Line.{Line}

abbrev pub line_of : Text → Line
line_of t = record { bytes = filled text_width t; len = length t }

abbrev pub last_digit : ℕ → ℕ
last_digit n = 0x30 + n % 10

-- a line with a text put at the end of another's
pub record Puts (l r : Line) (text : Text) : Type 0 where
  pub size : r.len ≡ l.len + length text
  pub is : (t : Text) → l ≡ line_of t → r ≡ line_of (t ++ text)

-- a line that holds a text, of bytes that a string may have
pub record Written (r : Line) (t : Text) : Type 0 where
  pub is : r ≡ line_of t
  pub short : length t ≤ text_width
  pub good : T (every text_byte t)
