-- Where the records of a script end: a table with a number for each offset, so that a record is stepped over by one look.
use Rattle.std.specs.Prelude.{ℕ, zero, suc, ◌+◌, ◌≤◌, ◌<◌, cond, List, [], ◌∷◌, ◌≡◌, ltb, length, get_or}
use Rattle.definitions.specs.Limits.{pattern_width, language_range_width}
use Rattle.definitions.specs.Bytes.{byte, row}

-- how many bytes a record has before its children, and how many children
pub record Extent : Type 0 where
  pub width : ℕ
  pub children : ℕ

abbrev pub extent : (width children : ℕ) → Extent
extent w n = record { width = w; children = n }

-- of names, expressions, booleans and queries, by kind
abbrev pub extents : List (ℕ × Extent)
extents =
    (0x31, extent 2 0)
    ∷ (0x32, extent 3 0)
    ∷ (0x41, extent 1 0)
    ∷ (0x42, extent 1 1)
    ∷ (0x43, extent 1 1)
    ∷ (0x44, extent 1 2)
    ∷ (0x45, extent 1 2)
    ∷ (0x50, extent 1 0)
    ∷ (0x51, extent 1 0)
    ∷ (0x52, extent 1 2)
    ∷ (0x53, extent 1 2)
    ∷ (0x54, extent 1 1)
    ∷ (0x55, extent (1 + pattern_width) 1)
    ∷ (0x56, extent (1 + language_range_width) 1)
    ∷ (0x57, extent 1 2)
    ∷ (0x58, extent 1 2)
    ∷ (0x61, extent 1 4)
    ∷ (0x62, extent 1 2)
    ∷ (0x63, extent 1 2)
    ∷ (0x64, extent 1 1)
    ∷ (0x65, extent 1 0)
    ∷ []

unfoldable pub extent_of : (kind : ℕ) → Extent
extent_of k = row k extents (extent 1 0)

-- the number at an offset below n, from there on the offset itself
unfoldable pub after_in : (ends : List ℕ) → (n at : ℕ) → ℕ
after_in ends n at = cond (ltb at n) (get_or ends at 0) at

-- so many records, one after the other
unfoldable pub after_all : (after : ℕ → ℕ) → (records from : ℕ) → ℕ
after_all after zero from = from
after_all after (suc k) from = after_all after k (after from)

unfoldable pub end_at : (script ends : List ℕ) → (at : ℕ) → ℕ
end_at s ends at = let x = extent_of (byte s at) in after_all (after_in ends (length s)) x.children (at + x.width)

-- each number is where the record's last child ends
abbrev pub Ended : (script ends : List ℕ) → Type 0
Ended s ends = (at : ℕ) → at < length s → get_or ends at 0 ≡ end_at s ends at

-- a table of a script's ends
pub record EndsLent (script ends : List ℕ) : Type 0 where
  pub ended : Ended script ends
  pub room : length script ≤ length ends
