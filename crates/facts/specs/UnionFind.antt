-- A union-find over numbers, as the list of their parents. No parent is above its child, so a root is the least number of its class.
use Rattle.std.specs.Prelude.{ℕ, zero, suc, ◌≤◌, min, max, ◌≡◌, List, true, false, eqb, get_or, length, set}

-- past the list's end each number is its own parent
abbrev pub parent : List ℕ → ℕ → ℕ
parent ps n = get_or ps n n

-- of so many numbers
pub record Forest (size : ℕ) (ps : List ℕ) : Type 0 where
  pub falls : (n : ℕ) → parent ps n ≤ n
  pub sized : length ps ≡ size

-- up to a root, in so many steps at most
unfoldable pub climb : List ℕ → (steps : ℕ) → ℕ → ℕ
climb ps zero n = n
climb ps (suc k) n = elim (eqb (parent ps n) n) [ true ↦ n | false ↦ climb ps k (parent ps n) ]

unfoldable pub root_in : List ℕ → ℕ → ℕ
root_in ps n = climb ps n n

-- the greater of the two roots gets the lesser for a parent
unfoldable pub merge_in : List ℕ → ℕ → ℕ → List ℕ
merge_in ps a b = set ps (max (root_in ps a) (root_in ps b)) (min (root_in ps a) (root_in ps b))
