-- The pairs of a block as bytes.
use Rattle.std.specs.Prelude.{ℕ, zero, suc, ◌+◌, List, [], ◌∷◌}
use Rattle.definitions.specs.Bytes.{byte}

-- the variables of so many pairs from an offset on
unfoldable pub pair_variables : (count : ℕ) → List ℕ → (at : ℕ) → List ℕ
pair_variables zero s at = []
pair_variables (suc count) s at = byte s at ∷ pair_variables count s (at + 2)
