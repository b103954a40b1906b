-- What holds of all elements of a list, and what is in it; numbers in order; flags.
use Rattle.std.specs.Prelude.{ℕ, zero, suc, Bool, false, get_or}
use mathlib.Core.List.{List, [], ◌∷◌, Memᴰ}

-- of each element
abbrev pub All : {A : Type 0} → (A → Type 0) → List A → Type 0
All P [] = Unit {0}
All P (x ∷ xs) = P x × All P xs

infix 50 ◌∈◌
-- an element of a list
abbrev pub ◌∈◌ : {A : Type 0} → A → List A → Type 0
x ∈ xs = Memᴰ x xs

-- so many numbers from the first on
unfoldable pub up_from : (first count : ℕ) → List ℕ
up_from k zero = []
up_from k (suc n) = k ∷ up_from (suc k) n

-- the flag at a place
abbrev pub flag : List Bool → ℕ → Bool
flag flags k = get_or flags k false
