-- Numbers' bytes and items' bytes are each a part after the other.
use Prim.Native.Nat.{ℕ}
use mathlib.Core.Path.{◌≡◌, refl, ap}
use mathlib.Core.List.{List, [], ◌∷◌, ◌++◌, append_assoc}
use Rattle.definitions.specs.Bytes.{little_bytes}
use Rattle.definitions.specs.Exports.{words, item_bytes, items_bytes}
use Rattle.definitions.specs.declared.SavedItem.{SavedItem}
use Rattle.laws.proofs.Writing.{joined}

pub words-joined : (ns : List ℕ) → joined (little_bytes 2) ns ≡ words ns
unfolding words
words-joined [] = refl
words-joined (n ∷ ns) = ap (λ (l : List ℕ). little_bytes 2 n ++ l) (words-joined ns)

pub items-joined : (is : List SavedItem) → joined item_bytes is ≡ items_bytes is
unfolding items_bytes
items-joined [] = refl
items-joined (i ∷ is) = ap (λ (l : List ℕ). item_bytes i ++ l) (items-joined is)

-- the six parts of a saved run's bytes
pub six-parts : (a b c d e f : List ℕ) → ((((a ++ b) ++ c) ++ d) ++ e) ++ f ≡ a ++ (b ++ (c ++ (d ++ (e ++ f))))
six-parts a b c d e f = simp append_assoc
