-- Numbers as the code has them. A place of a pattern: a number below 65,536 is fixed, 65,536 is sought, any other is free.
use Rattle.std.specs.Prelude.{ℕ, ◌+◌, ◌*◌, ◌/◌, ◌%◌, ◌^◌, ◌≤◌, ◌<◌, ◌≡◌, List, Bool, true, false, cond, eqb, ltb, get_or, Option, Some, None}
use Rattle.definitions.specs.Evaluate.{Quad}
use Rattle.keys.specs.Keys.{place_limit, key_limit, quad_of}
use Rattle.scan.specs.Scan.{Place, fixed, sought, free, Places, candidate, fits}
use Rattle.scan.specs.declared.Four.{Four}
use Rattle.scan.specs.declared.Stretch.{Stretch}

abbrev pub sought_code : ℕ
sought_code = place_limit

abbrev pub free_code : ℕ
free_code = sought_code + 1

unfoldable pub place_at : ℕ → Place
place_at n = cond (eqb n sought_code) sought (cond (ltb n sought_code) (fixed n) free)

abbrev pub places_at : Four → Places
places_at c = record { graph = place_at c.graph; subject = place_at c.subject; property = place_at c.property; object = place_at c.object }

-- four numbers as a quad
abbrev pub row_of : Four → Quad
row_of r = record { graph = r.graph; subject = r.subject; property = r.property; object = r.object }

-- the keys of quads that fit lie from low to top
abbrev pub Covers : Four → (lo low top : ℕ) → Type 0
Covers codes lo low top = (k : ℕ) → k < key_limit → fits (places_at codes) lo (quad_of k) ≡ true → (low ≤ k) × (k ≤ top)

-- from low to top, what a quad gives rises with its key
abbrev pub Climbs : Four → (lo low top : ℕ) → Type 0
Climbs codes lo low top =
    (j k : ℕ) → low ≤ j → j ≤ k → k ≤ top → candidate (places_at codes) lo (quad_of j) ≤ candidate (places_at codes) lo (quad_of k)

-- the quads of all keys from low to top fit
abbrev pub Fills : Four → (lo low top : ℕ) → Type 0
Fills codes lo low top = (k : ℕ) → low ≤ k → k ≤ top → fits (places_at codes) lo (quad_of k) ≡ true

-- a stretch holds the keys of the quads that fit
abbrev pub StretchOf : Four → (lo : ℕ) → Stretch → Type 0
StretchOf codes lo s =
    (s.low ≤ s.top) × Covers codes lo s.low s.top × (s.rises ≡ true → Climbs codes lo s.low s.top)
    × (s.whole ≡ true → Fills codes lo s.low s.top × Climbs codes lo s.low s.top)

-- the stretch of an open place
unfoldable pub open_at : (code base floor top : ℕ) → (whole : Bool) → Stretch
open_at code base floor top whole =
    cond (eqb code sought_code) (record { low = floor; top = top; rises = true; whole = whole }) (record { low = base; top = top; rises = false; whole = whole })

-- ── one place of a key ──────────────────────────────────────────────────────────────────────

abbrev pub key_bits : ℕ
key_bits = 64

-- how many bits from the right a property's number stands in a key, a subject's and a graph's
abbrev pub property_shift : ℕ
property_shift = 16

abbrev pub subject_shift : ℕ
subject_shift = 2 * property_shift

abbrev pub graph_shift : ℕ
graph_shift = 3 * property_shift

-- the number of a place that stands so many bits from the right
unfoldable pub place_number : (shift key : ℕ) → ℕ
place_number shift key = key / 2 ^ shift % place_limit

-- what a quad gives the variable, by how many bits from the right the place sought stands
unfoldable pub given_at : Option ℕ → (lo key : ℕ) → ℕ
given_at (Some shift) lo key = place_number shift key
given_at None lo key = lo

abbrev pub GivenBy : Four → Option ℕ → Type 0
GivenBy codes g = (lo k : ℕ) → k < key_limit → given_at g lo k ≡ candidate (places_at codes) lo (quad_of k)

-- ── keys passed over ────────────────────────────────────────────────────────────────────────

-- the quads of the keys from a place on, up to another, do not fit, or give no less than the best so far
abbrev pub PassedOver : List ℕ → Four → (lo best from to : ℕ) → Type 0
PassedOver f codes lo best from to = (j : ℕ) → from ≤ j → j < to → fits (places_at codes) lo (quad_of (get_or f j 0)) ≡ true
    → best ≤ candidate (places_at codes) lo (quad_of (get_or f j 0))
