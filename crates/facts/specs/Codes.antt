-- Constants, written types and places as the code has them: by document 01's codes.
use Rattle.std.specs.Prelude.{ℕ, ◌<◌, List, map, cond, eqb, get_or}
use Rattle.std.proofs.Math.Option.{none, some}
use Rattle.definitions.specs.Limits.{variable_limit}
use Rattle.definitions.specs.Types.{any_uri, string, decimal, date_time, integer, Ty, plain, range}
use Rattle.definitions.specs.Terms.{Sort}
use Rattle.definitions.specs.Typing.{Written, unbound, undecided, fixed}
use Rattle.codes.specs.TypeCodes.{type_of}
use Rattle.facts.specs.Tables.{Place, variable, known}
use Rattle.facts.specs.declared.Place as Codes
use Rattle.facts.specs.declared.Place.TheVariants.{Variable, Known}

-- ── constants: a byte for each term, the code of the least type that it has ─────────────────

-- the sort that has exactly the types above a type
abbrev pub sort_above : Ty → Sort
sort_above (plain any_uri) = Sort.uri none
sort_above (plain string) = Sort.literal string
sort_above (plain decimal) = Sort.literal decimal
sort_above (plain date_time) = Sort.literal date_time
sort_above (plain integer) = Sort.literal integer
sort_above (range d) = Sort.uri (some d)

unfoldable pub sorts_in : List ℕ → ℕ → Sort
sorts_in leasts c = sort_above (type_of (get_or leasts c 1))

-- ── written types: a byte for each variable, 0 open, 255 for a variable that no pair binds, else a type's code ──

abbrev pub unbound_code : ℕ
unbound_code = 255

unfoldable pub written_as : ℕ → Written
written_as k = cond (eqb k 0) undecided (cond (eqb k unbound_code) unbound (fixed (type_of k)))

unfoldable pub all_written : List ℕ → List Written
all_written codes = map written_as codes

-- ── places ──────────────────────────────────────────────────────────────────────────────────

abbrev pub place_of : Codes.Place → Place
place_of (Variable x) = variable x
place_of (Known k) = known (type_of k)

abbrev pub PlaceIn : Codes.Place → Type 0
PlaceIn (Variable x) = x < variable_limit
PlaceIn (Known k) = Unit
