-- Types by document 01's codes: what a code stands for, and the order of the types on their codes.
use Rattle.std.specs.Prelude.{ℕ, ◌-◌, List, [], ◌∷◌, Bool, cond, ◌&&◌, ◌||◌, eqb, ltb, leb}
use Rattle.definitions.specs.Bytes.{row}
use Rattle.definitions.specs.Types.{Datatype, any_uri, string, decimal, date_time, integer, Ty, plain, range}

-- what is no code stands for any_uri
abbrev pub literal_rows : List (ℕ × Datatype)
literal_rows = (2, string) ∷ (3, decimal) ∷ (4, date_time) ∷ (5, integer) ∷ []

unfoldable pub datatype_of : ℕ → Datatype
datatype_of k = row k literal_rows any_uri

unfoldable pub type_of : ℕ → Ty
type_of k = cond (ltb k 8) (plain (datatype_of k)) (range (datatype_of (k - 8)))

abbrev pub code_leq : ℕ → ℕ → Bool
code_leq a b = eqb a b || ((eqb a 5 && eqb b 3) || ((leb 9 a && eqb b 1) || (eqb a 11 && eqb b 13)))
