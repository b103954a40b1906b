-- A quad as one number, its graph weighing most, and lists of such numbers.
use Rattle.std.specs.Prelude.{ℕ, zero, suc, ◌+◌, ◌*◌, ◌/◌, ◌%◌, ◌≤◌, ◌<◌, List, [], ◌∷◌, Bool, true, cond, ◌&&◌, ltb, get_or}
use Rattle.definitions.specs.Evaluate.{Quad}
pub use Rattle.laws.specs.Quads.{place_limit}

-- a key is of 64 bits
abbrev pub key_limit : ℕ
key_limit = 18446744073709551616

-- what a property's number, a subject's and a graph's weigh in a key
abbrev pub property_weight : ℕ
property_weight = place_limit

abbrev pub subject_weight : ℕ
subject_weight = 4294967296

abbrev pub graph_weight : ℕ
graph_weight = 281474976710656

unfoldable pub key_of : Quad → ℕ
key_of q = ((q.graph * place_limit + q.subject) * place_limit + q.property) * place_limit + q.object

unfoldable pub quad_of : ℕ → Quad
quad_of k = record {
  graph = k / graph_weight;
  subject = k / subject_weight % place_limit;
  property = k / property_weight % place_limit;
  object = k % place_limit;
}

-- so many keys from a place on
unfoldable pub keys_from : (count : ℕ) → List ℕ → (at : ℕ) → List ℕ
keys_from zero f at = []
keys_from (suc count) f at = get_or f at 0 ∷ keys_from count f (at + 1)

-- a number is below the first of a list, if there is one
abbrev pub below_first : ℕ → List ℕ → Bool
below_first x [] = true
below_first x (y ∷ ks) = ltb x y

-- each number is below its neighbour
unfoldable pub rising : List ℕ → Bool
rising [] = true
rising (x ∷ ks) = below_first x ks && rising ks

-- how many numbers are below x
unfoldable pub count_below : ℕ → List ℕ → ℕ
count_below x [] = 0
count_below x (k ∷ ks) = cond (ltb k x) (suc (count_below x ks)) (count_below x ks)

-- r of the first n are below x, and these stand first
pub record Splits (f : List ℕ) (n x r : ℕ) : Type 0 where
  pub within : r ≤ n
  pub below : (j : ℕ) → j < r → get_or f j 0 < x
  pub above : (j : ℕ) → r ≤ j → j < n → x ≤ get_or f j 0

-- ── the same in quads ───────────────────────────────────────────────────────────────────────

-- the quads of so many keys from a place on
unfoldable pub rows_from : (count : ℕ) → List ℕ → (at : ℕ) → List Quad
rows_from zero f at = []
rows_from (suc count) f at = quad_of (get_or f at 0) ∷ rows_from count f (at + 1)

unfoldable pub keys_of : List Quad → List ℕ
keys_of [] = []
keys_of (q ∷ qs) = key_of q ∷ keys_of qs
