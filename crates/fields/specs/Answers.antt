-- What the code answers of what the definitions give.
use Rattle.std.specs.Prelude.{ℕ, ◌+◌, Bool, false, cond, ◌||◌, List, eqb, leb, length}
use Rattle.std.proofs.Math.Option.{Option, none, some}
use Rattle.definitions.specs.Bytes.{Got, onward}
use Rattle.definitions.specs.Lists.{some?, distinct}
use Rattle.definitions.specs.Types.{Datatype, datatype_code, type_code}
use Rattle.definitions.specs.Terms.{Text, Term, Schema, between, body_width, term_of_body, body_at, datatype_in, sort_of}
use Rattle.laws.specs.Sorts.{least}
use Rattle.std.specs.declared.option.Option as Answer
use Rattle.std.specs.Prelude.{Some, None}

-- a byte from low to high, or one other
unfoldable pub range_or : (low high other : ℕ) → ℕ → Bool
range_or low high other b = between low high b || eqb b other

-- so many bytes follow from an offset on
unfoldable pub has_room : List ℕ → (at width : ℕ) → Bool
has_room s at width = leb (at + width) (length s)

-- ── bodies of a datatype, none for a kind that is no term's ─────────────────────────────────

unfoldable pub width_of : Option Datatype → ℕ
width_of none = 0
width_of (some d) = body_width d

unfoldable pub body_term : Option Datatype → List ℕ → Option Term
body_term o b = onward o (λ d. term_of_body d b)

unfoldable pub body_from : Option Datatype → List ℕ → ℕ → Got Term
body_from o s at = onward o (λ d. body_at d s at)

-- ── records one after the other, none where one is malformed ────────────────────────────────

unfoldable pub count_of : {A : Type 0} → Option (List A) → Answer.Option ℕ
count_of none = None
count_of (some xs) = Some (length xs)

module _ {A : Type 0} (same : A → A → Bool) where
  -- two that were read are the same
  unfoldable pub same_in : Got A → Got A → Bool
  same_in none y = false
  same_in (some x) none = false
  same_in (some x) (some y) = same x.0 y.0

  -- one that was read is among others
  unfoldable pub again_in : Got A → Option (List A) → Bool
  again_in none xs = false
  again_in (some x) none = false
  again_in (some x) (some xs) = some? (same x.0) xs

  -- no two are the same
  unfoldable pub distinct_in : Option (List A) → Bool
  distinct_in none = false
  distinct_in (some xs) = distinct same xs

-- ── datatypes and types by their codes ──────────────────────────────────────────────────────

-- 0 for none
unfoldable pub code_of : Option Datatype → ℕ
code_of none = 0
code_of (some d) = datatype_code d

-- a code, none for 0
unfoldable pub code_if : ℕ → Answer.Option ℕ
code_if k = cond (eqb k 0) None (Some k)

unfoldable pub schema_code : Option Schema → Option Text → ℕ
schema_code none u = 0
schema_code (some S) none = 0
schema_code (some S) (some u) = code_of (datatype_in S u)

-- 1 for a URI that is no schema URI, 9 to 13 for one that is, else a literal's datatype
unfoldable pub least_code : Option Schema → Option Term → ℕ
least_code none t = 0
least_code (some S) none = 0
least_code (some S) (some t) = type_code (least (sort_of S t))
