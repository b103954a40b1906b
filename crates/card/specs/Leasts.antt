-- The least types of terms, by their codes.
use Rattle.std.specs.Prelude.{ℕ, List, [], map}
use Rattle.std.proofs.Math.Option.{Option, none, some}
use Rattle.definitions.specs.Types.{type_code}
use Rattle.definitions.specs.Terms.{Term, Schema, sort_of}
use Rattle.laws.specs.Sorts.{least}

unfoldable pub code_of : Schema → Term → ℕ
code_of S t = type_code (least (sort_of S t))

-- of the terms that a table holds
unfoldable pub least_codes : Option Schema → Option (List Term) → List ℕ
least_codes none ts = []
least_codes (some S) none = []
least_codes (some S) (some ts) = map (code_of S) ts
