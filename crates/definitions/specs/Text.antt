-- Document 01, "Records": patterns and language ranges, what they are and what they accept.
use Rattle.std.specs.Prelude.{ℕ, List, [], ◌∷◌, Bool, true, false, cond, not, ◌&&◌, ◌||◌, eqb}
use Rattle.std.proofs.Math.Option.{Option, some}
use Rattle.definitions.specs.Limits.{pattern_width, language_range_width}
use Rattle.definitions.specs.Lists.{every, some?, is_empty, is_in}
use Rattle.definitions.specs.Bytes.{same_bytes, provided, onward}
use Rattle.definitions.specs.Ascii.{ascii}
use Rattle.definitions.specs.Terms.{Text, field_text, text_byte, tag_byte, small_letter, hyphen}

-- ── patterns ────────────────────────────────────────────────────────────────────────────────

-- one byte of a text: a literal byte, or `.` for any byte
pub data Atom : Type 0 where
  literal : ℕ → Atom
  any : Atom

-- an atom once, or with `*` after it any number of times
pub data Piece : Type 0 where
  one : Atom → Piece
  many : Atom → Piece

-- its pieces, whether it begins with `^` and whether it ends with `$`
pub record Pattern : Type 0 where
  pub from_start : Bool
  pub pieces : List Piece
  pub to_end : Bool

abbrev pub star : ℕ
star = 0x2A

abbrev pub dot : ℕ
dot = 0x2E

abbrev pub caret : ℕ
caret = 0x5E

abbrev pub dollar : ℕ
dollar = 0x24

-- the bytes that make a pattern bad, and the three that have a place of their own
unfoldable pub no_literal : ℕ → Bool
no_literal b = is_in b (ascii "\\|?+()[]{}") || (eqb b star || (eqb b caret || eqb b dollar))

unfoldable pub atom_of : ℕ → Option Atom
atom_of b = cond (eqb b dot) (some any) (provided (not (no_literal b)) (some (literal b)))

-- the pieces and whether `$` ends them
abbrev pub with_piece : Piece → List Piece × Bool → List Piece × Bool
with_piece p r = (p ∷ r.0, r.1)

unfoldable pub pieces_of : Text → Option (List Piece × Bool)
pieces_of [] = some ([], false)
pieces_of (b ∷ []) = cond (eqb b dollar) (some ([], true)) (onward (atom_of b) (λ a. some (one a ∷ [], false)))
pieces_of (b ∷ c ∷ t) =
    onward (atom_of b) (λ a.
    elim (eqb c star) [
      | true ↦ onward (pieces_of t) (λ r. some (with_piece (many a) r))
      | false ↦ onward (pieces_of (c ∷ t)) (λ r. some (with_piece (one a) r))
    ])

abbrev pub with_start : Bool → List Piece × Bool → Pattern
with_start start r = record { from_start = start; pieces = r.0; to_end = r.1 }

unfoldable pub pattern_of_text : Text → Option Pattern
pattern_of_text [] = some (with_start false ([], false))
pattern_of_text (b ∷ t) =
    elim (eqb b caret) [
      | true ↦ onward (pieces_of t) (λ r. some (with_start true r))
      | false ↦ onward (pieces_of (b ∷ t)) (λ r. some (with_start false r))
    ]

-- the pattern in 16 bytes, zeros at the end; none where it is bad
unfoldable pub pattern_of : List ℕ → Option Pattern
pattern_of field = onward (field_text text_byte pattern_width field) pattern_of_text

-- some way to cut a text in two passes a test
unfoldable pub some_cut : (Text → Text → Bool) → Text → Bool
some_cut f [] = f [] []
some_cut f (b ∷ t) = f [] (b ∷ t) || some_cut (λ x y. f (b ∷ x) y) t

unfoldable pub is_atom : Atom → ℕ → Bool
is_atom (literal a) b = eqb a b
is_atom any b = true

unfoldable pub one_byte : (ℕ → Bool) → Text → Bool
one_byte ok [] = false
one_byte ok (b ∷ []) = ok b
one_byte ok (b ∷ c ∷ t) = false

-- a text is made of what the pieces stand for, one after the other
unfoldable pub made_of : List Piece → Text → Bool
made_of [] t = is_empty t
made_of (one a ∷ ps) t = some_cut (λ x y. one_byte (is_atom a) x && made_of ps y) t
made_of (many a ∷ ps) t = some_cut (λ x y. every (is_atom a) x && made_of ps y) t

-- a pattern accepts a text of which some part fits: from the start on with `^`, to the end with `$`
unfoldable pub accepts : Pattern → Text → Bool
accepts p t =
    some_cut (λ before rest. (not p.from_start || is_empty before)
    && some_cut (λ fitting after. made_of p.pieces fitting && (not p.to_end || is_empty after)) rest) t

-- ── language ranges ─────────────────────────────────────────────────────────────────────────

-- `*`, or the beginning of a tag
pub data LanguageRange : Type 0 where
  any_tag : LanguageRange
  beginning : Text → LanguageRange

-- a `-*` at the end counts for nothing
unfoldable pub without_star : Text → Text
without_star [] = []
without_star (a ∷ []) = a ∷ []
without_star (a ∷ b ∷ t) = cond (eqb a hyphen && (eqb b star && is_empty t)) [] (a ∷ without_star (b ∷ t))

-- small letters and hyphens with at least one letter
unfoldable pub range_of_text : Text → Option LanguageRange
range_of_text t =
    let u = without_star t in
    cond (same_bytes t (star ∷ [])) (some any_tag) (provided (every tag_byte u && some? small_letter u) (some (beginning u)))

-- the range in 8 bytes, zeros at the end; none where it is bad
unfoldable pub language_range_of : List ℕ → Option LanguageRange
language_range_of field = onward (field_text (λ b. tag_byte b || eqb b star) language_range_width field) range_of_text

-- its own tag, and tags that go on with a hyphen
unfoldable pub goes_on : (range tag : Text) → Bool
goes_on [] [] = true
goes_on [] (b ∷ tag) = eqb b hyphen
goes_on (a ∷ range) [] = false
goes_on (a ∷ range) (b ∷ tag) = eqb a b && goes_on range tag

-- `*` refuses the empty tag and accepts the others (document 02, Ask 2)
unfoldable pub matches : LanguageRange → (tag : Text) → Bool
matches any_tag tag = not (is_empty tag)
matches (beginning range) tag = goes_on range tag
