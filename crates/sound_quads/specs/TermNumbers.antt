-- Terms by the codes of their least types: the clauses for URIs and quads as tests on numbers.
use Rattle.std.specs.Prelude.{ℕ, ◌-◌, List, Bool, ◌&&◌, ◌||◌, eqb, leb, ltb, get_or}
use Rattle.definitions.specs.Lists.{is_in}
use Rattle.definitions.specs.Evaluate.{Quad}
use Rattle.codes.specs.TypeCodes.{code_leq}

-- the number of a URI: 1 is any_uri, 9 to 13 are ranges
unfoldable pub uri_number : (leasts : List ℕ) → (count : ℕ) → ℕ → Bool
uri_number leasts count i = ltb i count && (eqb (get_or leasts i 0) 1 || leb 9 (get_or leasts i 0))

-- a property of the schema, and an object of its datatype
unfoldable pub pair_numbers : (leasts : List ℕ) → (count property object : ℕ) → Bool
pair_numbers leasts count p o =
    ltb p count && (ltb o count && (leb 9 (get_or leasts p 0) && code_leq (get_or leasts o 0) (get_or leasts p 0 - 8)))

unfoldable pub quad_numbers : (leasts : List ℕ) → (count : ℕ) → (fetched : List ℕ) → Quad → Bool
quad_numbers leasts count fetched q =
    is_in q.graph fetched
    && (uri_number leasts count q.graph
    && (uri_number leasts count q.subject
    && pair_numbers leasts count q.property q.object))
