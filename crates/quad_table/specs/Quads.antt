-- The quad table with a quad written.
use Rattle.std.specs.Prelude.{ℕ, ◌*◌, List, [], ◌∷◌, ◌++◌, take, drop}
use Rattle.definitions.specs.Limits.{quad_width}
use Rattle.definitions.specs.Evaluate.{Quad}
use Rattle.definitions.specs.Saved.{quad_bytes}

abbrev pub quad : (graph subject property object : ℕ) → Quad
quad g s p o = record { graph = g; subject = s; property = p; object = o }

-- a table with a quad written
unfoldable pub quad_set : (table : List ℕ) → (n : ℕ) → Quad → List ℕ
quad_set table n q = take (n * quad_width) table ++ (quad_bytes (q ∷ []) ++ drop quad_width (drop (n * quad_width) table))
