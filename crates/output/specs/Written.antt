-- What writing a text leaves.
use Rattle.std.specs.Prelude.{ℕ, ◌+◌, ◌≡◌, List, ◌++◌, length, take, drop}

-- a text stands from an offset on, and nothing else has changed; r is the offset after it
pub record Written (text old new : List ℕ) (at r : ℕ) : Type 0 where
  pub end : r ≡ at + length text
  pub list : new ≡ take at old ++ (text ++ drop r old)

-- the most digits of a number
abbrev pub number_room : ℕ
number_room = 20
