-- The definitions at work, by computation: the order of quads, and a quad put in its place.
use Prim.Native.Nat.{ℕ}
use mathlib.Core.Path.{◌≡◌, refl}
use mathlib.Core.List.{List, [], ◌∷◌, map}
use mathlib.Core.Bool.{true, false}
use Rattle.definitions.specs.Evaluate.{Quad}
use Rattle.definitions.specs.Machine.{in_order, with_quad}
use Rattle.definitions.proofs.Opened.{opened}

quad : (graph subject property object : ℕ) → Quad
quad g s p o = record { graph = g; subject = s; property = p; object = o }

-- a larger object, then a larger subject, which weighs more, then a larger graph, which weighs most
a : Quad
a = quad 0 2 1 3

b : Quad
b = quad 0 2 1 5

c : Quad
c = quad 0 4 1 0

d : Quad
d = quad 1 0 0 0

orders : map in_order ((a ∷ b ∷ d ∷ []) ∷ (a ∷ d ∷ b ∷ []) ∷ (a ∷ a ∷ []) ∷ []) ≡ true ∷ false ∷ false ∷ []
unfolding quad a b d opened
orders = refl

-- a new quad, and one that is there already
puts : map (λ q. with_quad q (a ∷ b ∷ d ∷ [])) (c ∷ b ∷ []) ≡ (a ∷ b ∷ c ∷ d ∷ []) ∷ (a ∷ b ∷ d ∷ []) ∷ []
unfolding quad a b c d opened
puts = refl
