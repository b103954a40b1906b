-- The record at an offset.
use Rattle.std.specs.Prelude.{ℕ, ◌≡◌, ◌<◌, List, length}
use Rattle.definitions.specs.Bytes.{byte}

-- a record of a kind begins here, and a level is left for it
pub record Here (s : List ℕ) (at left kind : ℕ) : Type 0 where
  pub level : 0 < left
  pub inside : at < length s
  pub is : byte s at ≡ kind
