-- The least type that a term has: it has exactly the types above it.
use Rattle.std.specs.Prelude.{ℕ, ◌≡◌, List, get_or}
use Rattle.std.proofs.Math.Option.{none, some}
use Rattle.std.proofs.Math.ListN.{get_elem?}
use Rattle.definitions.specs.Types.{Datatype, Ty, plain, range, type_of_code}
use Rattle.definitions.specs.Terms.{Term, Schema, Sort, sort_of}

-- the least type that a sort has
unfoldable pub least : Sort → Ty
least (Sort.uri none) = plain Datatype.any_uri
least (Sort.uri (some d)) = range d
least (Sort.literal d) = plain d

-- the codes of the least types of terms
abbrev pub LeastOf : Schema → List Term → (leasts : List ℕ) → Type 0
LeastOf S terms leasts = (i : ℕ) (t : Term) → get_elem? terms i ≡ some t → type_of_code (get_or leasts i 0) ≡ some (least (sort_of S t))
