-- Patterns matched from the back of a text: a row tells, of each place of a pattern, whether the rest of the pattern fits
-- the rest of the text.
use Rattle.std.specs.Prelude.{ℕ, ◌≤◌, ◌≡◌, List, [], ◌∷◌, Bool, false, cond, not, ◌&&◌, ◌||◌, eqb, length, get_or, drop}
use Rattle.std.proofs.Math.Option.{some}
use Rattle.definitions.specs.Lists.{is_empty}
use Rattle.definitions.specs.Bytes.{unfilled}
use Rattle.definitions.specs.Terms.{Text}
use Rattle.definitions.specs.Text.{Piece, one, many, is_atom, pieces_of, dot}

-- some beginning of a text is made of the pieces, the whole text where `end` says so
unfoldable pub fits : List Piece → (end : Bool) → Text → Bool
fits [] end t = not end || is_empty t
fits (one a ∷ ps) end [] = false
fits (one a ∷ ps) end (b ∷ t) = is_atom a b && fits ps end t
fits (many a ∷ ps) end [] = fits ps end []
fits (many a ∷ ps) end (b ∷ t) = fits ps end (b ∷ t) || (is_atom a b && fits (many a ∷ ps) end t)

-- a test of some end part of a text
unfoldable pub anywhere : (Text → Bool) → Text → Bool
anywhere f [] = f []
anywhere f (b ∷ t) = f (b ∷ t) || anywhere f t

-- a text with a byte in front; 0 stands for the end
abbrev pub ahead : ℕ → Text → Text
ahead b t = cond (eqb b 0) [] (b ∷ t)

-- a pattern's byte stands for a byte of a text; 0 is none
abbrev pub hits : (a b : ℕ) → Bool
hits a b = not (eqb b 0) && (eqb a dot || eqb a b)

-- what a row says from a place of the pattern in a field on
abbrev pub RowFrom : (field : List ℕ) (from : ℕ) → Text → (row : List Bool) → Type 0
RowFrom f from t row =
    (k : ℕ) → from ≤ k → k ≤ length (unfilled f) → (r : List Piece × Bool) → pieces_of (unfilled (drop k f)) ≡ some r → get_or row k false ≡ fits r.0 r.1 t

-- what a search finds: whether the pieces fit a text from its start on, and whether they fit anywhere
pub record Finds (r : List Piece × Bool) (t : Text) (at_start somewhere : Bool) : Type 0 where
  pub start : at_start ≡ fits r.0 r.1 t
  pub any : somewhere ≡ anywhere (fits r.0 r.1) t
