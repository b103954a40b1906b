-- A block as the search sees it, made from the script and the saved run; and the numbers that it finds.
use Rattle.std.specs.Prelude.{ℕ, ◌+◌, Bool, false, cond, List, [], ◌∷◌, map, ltb, get_or}
use Rattle.definitions.specs.Bytes.{byte}
use Rattle.definitions.specs.Scope.{variables}
use Rattle.scan.specs.Codes.{sought_code, free_code}
use Rattle.search.specs.declared.Block.{Block}

-- the code of a variable's number, as the search has it
abbrev pub known_code : List Bool → List ℕ → ℕ → ℕ
known_code bound bindings v = cond (get_or bound v false) (get_or bindings v 0) free_code

unfoldable pub known_of : List Bool → List ℕ → List ℕ
known_of bound bindings = map (known_code bound bindings) variables

-- the variables of a block's four pairs
abbrev pub pair_numbers : (script : List ℕ) → (at : ℕ) → List ℕ
pair_numbers s at = byte s (at + 3) ∷ byte s (at + 5) ∷ byte s (at + 7) ∷ byte s (at + 9) ∷ []

abbrev pub types_of : (types vars : List ℕ) → List ℕ
types_of types vars = get_or types (get_or vars 0 0) 0 ∷ get_or types (get_or vars 1 0) 0 ∷ get_or types (get_or vars 2 0) 0 ∷ get_or types (get_or vars 3 0) 0 ∷ []

-- four numbers, zero where the list has none
abbrev pub four_of : List ℕ → List ℕ
four_of l = get_or l 0 0 ∷ get_or l 1 0 ∷ get_or l 2 0 ∷ get_or l 3 0 ∷ []

abbrev pub block_of : (script : List ℕ) → (at : ℕ) → (types last : List ℕ) → Block
block_of s at types last =
    record {
      «at» = at + 11;
      size = byte s (at + 2);
      vars = pair_numbers s at;
      types = types_of types (pair_numbers s at);
      last = four_of last;
    }

-- a number of the term table is below 65,536
unfoldable pub short_number : ℕ → ℕ
short_number n = cond (ltb n sought_code) n 0

abbrev pub short_numbers : List ℕ → List ℕ
short_numbers l = short_number (get_or l 0 0) ∷ short_number (get_or l 1 0) ∷ short_number (get_or l 2 0) ∷ short_number (get_or l 3 0) ∷ []
