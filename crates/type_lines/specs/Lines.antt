-- The printer's lines by the codes of the reported types, 0 for a variable that no pair binds.
use Rattle.definitions.specs.Numbers.{refusal_number}
use Rattle.definitions.specs.declared.Refusal.{Refusal}
use Rattle.std.specs.Prelude.{ℕ, zero, suc, ◌+◌, ◌-◌, ◌*◌, List, [], ◌∷◌, ◌++◌, true, false, ltb}
use Rattle.definitions.specs.Limits.{variable_limit}
use Rattle.definitions.specs.Ascii.{ascii}
use Rattle.definitions.specs.Bytes.{row}
use Rattle.definitions.specs.Values.{natural_text}
use Rattle.definitions.specs.Printer.{line}

-- the most bytes that a number takes, a datatype, a type, a variable's line, all of these, the first line, and all that is printed
abbrev pub number_room : ℕ
number_room = 3

abbrev pub datatype_room : ℕ
datatype_room = 12

abbrev pub type_room : ℕ
type_room = datatype_room + 7

abbrev pub line_room : ℕ
line_room = number_room + 1 + type_room + 1

abbrev pub lines_room : ℕ
lines_room = variable_limit * line_room

abbrev pub first_room : ℕ
first_room = 9 + number_room + 1

abbrev pub output_room : ℕ
output_room = first_room + lines_room

abbrev pub datatype_names : List (ℕ × List ℕ)
datatype_names =
    (1, ascii "xsd:anyURI")
    ∷ (2, ascii "xsd:string")
    ∷ (3, ascii "xsd:decimal")
    ∷ (4, ascii "xsd:dateTime")
    ∷ (5, ascii "xsd:integer")
    ∷ []

unfoldable pub datatype_text : ℕ → List ℕ
datatype_text code = row code datatype_names []

-- 1 to 5 a datatype, 9 to 13 range of datatype 1 to 5
unfoldable pub type_text : ℕ → List ℕ
type_text code =
    elim (ltb code 9) [
      | true ↦ datatype_text code
      | false ↦ ascii "range(" ++ (datatype_text (code - 8) ++ ascii ")")
    ]

unfoldable pub variable_line : ℕ → (code : ℕ) → List ℕ
variable_line v code = line (natural_text v ++ (ascii " " ++ type_text code))

-- nothing of a variable that no pair binds
unfoldable pub bound_line : ℕ → (code : ℕ) → List ℕ
bound_line v zero = []
bound_line v (suc k) = variable_line v (suc k)

unfoldable pub bound_lines : ℕ → (codes : List ℕ) → List ℕ
bound_lines v [] = []
bound_lines v (k ∷ ks) = bound_line v k ++ bound_lines (suc v) ks

abbrev pub counts : (code : ℕ) → ℕ
counts zero = 0
counts (suc k) = 1

unfoldable pub bound_ones : (codes : List ℕ) → ℕ
bound_ones [] = 0
bound_ones (k ∷ ks) = counts k + bound_ones ks

-- state and variable count, then a line for each variable; on a refusal the single line `refused` and its number
unfoldable pub accepted_text : (codes : List ℕ) → List ℕ
accepted_text codes = line (ascii "accepted " ++ natural_text (bound_ones codes)) ++ bound_lines 0 codes

unfoldable pub refused_line : ℕ → List ℕ
refused_line n = line (ascii "refused " ++ natural_text n)

abbrev pub refused_text : Refusal → List ℕ
refused_text r = refused_line (refusal_number r)

-- both by the refusal's number, 0 for none
unfoldable pub card_text : (refusal : ℕ) → (codes : List ℕ) → List ℕ
card_text zero codes = accepted_text codes
card_text (suc n) codes = refused_line (suc n)
