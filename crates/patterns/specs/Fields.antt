-- The bytes of patterns, as the checks of them go.
use Rattle.std.specs.Prelude.{ℕ, Bool, cond, ◌&&◌, List, eqb, length}
use Rattle.definitions.specs.Bytes.{onward}
use Rattle.definitions.specs.Terms.{text_byte, field_text}
use Rattle.laws.specs.ReadAnswers.{is_some}
use Rattle.definitions.specs.Text.{star, atom_of, pieces_of}

-- a byte of a text that stands for itself in a pattern, or `.`
unfoldable pub is_literal : ℕ → Bool
is_literal b = text_byte b && is_some (atom_of b)

-- the byte that stands next in a pattern: `*` only after one of these
unfoldable pub may_follow : (atom : Bool) → ℕ → Bool
may_follow atom b = cond (eqb b star) atom (is_literal b)

-- a field whose text is good pieces
unfoldable pub are_pieces : List ℕ → Bool
are_pieces field = is_some (onward (field_text text_byte (length field) field) pieces_of)
