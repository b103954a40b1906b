-- Document 02, Ask 9: the ranks that a club lends, and those that are lent when it has none.
use Rattle.std.specs.Prelude.{ℕ, zero, suc, ◌+◌, List, [], ◌∷◌, Bool, cond, eqb}
use Rattle.definitions.specs.Limits.{ranks_width}
use Rattle.definitions.specs.Lists.{every}

-- ranks are entry by entry for the bytes from this one on, to 7E
abbrev pub first_byte : ℕ
first_byte = 0x20

-- the numbers below one
unfoldable pub below : ℕ → List ℕ
below zero = []
below (suc n) = n ∷ below n

-- how often a number stands in a list
unfoldable pub occurs : ℕ → List ℕ → ℕ
occurs r [] = 0
occurs r (x ∷ xs) = cond (eqb r x) 1 0 + occurs r xs

-- each rank 0 to 94 stands once
unfoldable pub is_alphabet : (ranks : List ℕ) → Bool
is_alphabet ranks = every (λ r. eqb (occurs r ranks) 1) (below ranks_width)

-- Blank, digits, letters as A a B b to Z z, then the others by byte.
unfoldable pub built_in : List ℕ
built_in =
    0 ∷ 63 ∷ 64 ∷ 65 ∷ 66 ∷ 67 ∷ 68 ∷ 69 ∷ 70 ∷ 71 ∷ 72 ∷ 73 ∷ 74 ∷ 75 ∷ 76 ∷ 77
    ∷ 1 ∷ 2 ∷ 3 ∷ 4 ∷ 5 ∷ 6 ∷ 7 ∷ 8 ∷ 9 ∷ 10 ∷ 78 ∷ 79 ∷ 80 ∷ 81 ∷ 82 ∷ 83
    ∷ 84 ∷ 11 ∷ 13 ∷ 15 ∷ 17 ∷ 19 ∷ 21 ∷ 23 ∷ 25 ∷ 27 ∷ 29 ∷ 31 ∷ 33 ∷ 35 ∷ 37 ∷ 39
    ∷ 41 ∷ 43 ∷ 45 ∷ 47 ∷ 49 ∷ 51 ∷ 53 ∷ 55 ∷ 57 ∷ 59 ∷ 61 ∷ 85 ∷ 86 ∷ 87 ∷ 88 ∷ 89
    ∷ 90 ∷ 12 ∷ 14 ∷ 16 ∷ 18 ∷ 20 ∷ 22 ∷ 24 ∷ 26 ∷ 28 ∷ 30 ∷ 32 ∷ 34 ∷ 36 ∷ 38 ∷ 40
    ∷ 42 ∷ 44 ∷ 46 ∷ 48 ∷ 50 ∷ 52 ∷ 54 ∷ 56 ∷ 58 ∷ 60 ∷ 62 ∷ 91 ∷ 92 ∷ 93 ∷ 94 ∷ []
