-- Patterns and language ranges in the fields that hold them.
use Rattle.std.specs.Prelude.{ℕ, ◌+◌, List, Bool, ◌&&◌, ◌||◌, eqb}
use Rattle.definitions.specs.Bytes.{byte}
use Rattle.definitions.specs.Terms.{hyphen}
use Rattle.definitions.specs.Text.{star}

-- a range ends at a place: at a zero, or at a `-*`
abbrev pub ends_at : List ℕ → ℕ → Bool
ends_at range i = eqb (byte range i) 0 || (eqb (byte range i) hyphen && eqb (byte range (i + 1)) star)
