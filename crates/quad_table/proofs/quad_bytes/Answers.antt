-- `quad_table::quad_bytes` meets its contract: two bytes for each number, the lower first.
use mathlib.Core.List.{[], ◌∷◌}
use lib.ListN.{get_or}
use Rattle.definitions.specs.Bytes.{little_bytes}
use Rattle.definitions.specs.Saved.{quad_bytes}
use Rattle.quad_table.proofs.quad_bytes.Goals as goal

pub returns : goal.returns
unfolding quad_bytes little_bytes
returns c =
    λ t. get_or (c.to_le_bytes.ensures t) 0 0 ∷ get_or (c.to_le_bytes.ensures t) 1 0 ∷ get_or (c.to_le_bytes-2.ensures t) 0 0 ∷ get_or (c.to_le_bytes-2.ensures t) 1 0
    ∷ get_or (c.to_le_bytes-3.ensures t) 0 0 ∷ get_or (c.to_le_bytes-3.ensures t) 1 0 ∷ get_or (c.to_le_bytes-4.ensures t) 0 0 ∷ get_or (c.to_le_bytes-4.ensures t) 1 0 ∷ []
