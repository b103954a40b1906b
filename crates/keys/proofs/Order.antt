-- A quad is its key: the parts of a key, equal keys, and the order of keys, which is that of quads.
use Prim.Native.Nat.{ℕ, ◌+◌, ◌*◌, ◌≤◌, ◌<◌}
use native.Mathlib.Omega.{arith}
use mathlib.Core.Path.{◌≡◌, refl, sym, ◌∙◌, ap}
use mathlib.Core.Bool.{Bool, true, false, ◌&&◌, ◌||◌}
use lib.Dec.{eqb, ltb}
use borrow.Author.Tests.{lt-ltb, le-ltb, ltb-true, ltb-false, eqb-true, eqb-false}
use Rattle.definitions.specs.Values.{before}
use Rattle.definitions.specs.Evaluate.{Quad}
use Rattle.definitions.specs.Machine.{quad_before}
use Rattle.laws.specs.Quads.{place_limit, Small}
use Rattle.keys.specs.Keys.{key_limit, key_of, quad_of}

-- a quad from its parts
pub quad-path : (q r : Quad) → q.graph ≡ r.graph → q.subject ≡ r.subject → q.property ≡ r.property → q.object ≡ r.object → q ≡ r
quad-path q r g s p o = λ i. record { graph = g i; subject = s i; property = p i; object = o i }

-- the parts of a packed quad
pub parts : (q : Quad) → Small q → quad_of (key_of q) ≡ q
unfolding quad_of key_of
parts q h = quad-path (quad_of (key_of q)) q (omega arith) (omega arith) (omega arith) (omega arith)

-- a key of 64 bits is that of its parts, which are of 16 bits
pub whole : (k : ℕ) → key_of (quad_of k) ≡ k
unfolding quad_of key_of
whole k = omega arith

pub small : (k : ℕ) → k < key_limit → Small (quad_of k)
unfolding quad_of
small k h = record { graph = omega arith; subject = omega arith; property = omega arith; object = omega arith }

-- equal keys are those of equal quads
pub same_key : (q r : Quad) → Small q → Small r → key_of q ≡ key_of r → q ≡ r
same_key q r h k e = sym (parts q h) ∙ (ap quad_of e ∙ parts r k)

-- numbers that are ordered by a first part, and where these are equal by the rest
module _ (a b K L x y : ℕ) (less-first : a < b → K < L) (more-first : b < a → L ≤ K) (less-rest : a ≡ b → x < y → K < L)
    (more-rest : a ≡ b → y ≤ x → L ≤ K) where
  by_parts : ltb K L ≡ ltb a b || eqb a b && ltb x y
  by_parts = go (ltb a b) (eqb a b) (ltb x y) refl refl refl
    where
      go : (s t u : Bool) → ltb a b ≡ s → eqb a b ≡ t → ltb x y ≡ u → ltb K L ≡ s || t && u
      go true t u e f g = lt-ltb K L (less-first (ltb-true a b e))
      go false true true e f g = lt-ltb K L (less-rest (eqb-true a b f) (ltb-true x y g))
      go false true false e f g = le-ltb K L (more-rest (eqb-true a b f) (ltb-false x y g))
      go false false u e f g = le-ltb K L (more-first (omega (arith, ltb-false a b e, eqb-false a b f)))

-- the order of keys is that of quads
pub order : (q r : Quad) → Small q → Small r → ltb (key_of q) (key_of r) ≡ quad_before q r
unfolding key_of quad_before before
order q r h k =
    by_parts q.graph r.graph (key_of q) (key_of r) ((q.subject * place_limit + q.property) * place_limit + q.object) ((r.subject * place_limit + r.property) * place_limit + r.object)
    (λ a. omega arith) (λ a. omega arith) (λ a b. omega arith) (λ a b. omega arith)
    ∙ ap (λ t. ltb q.graph r.graph || eqb q.graph r.graph && t)
    (by_parts q.subject r.subject ((q.subject * place_limit + q.property) * place_limit + q.object)
    ((r.subject * place_limit + r.property) * place_limit + r.object) (q.property * place_limit + q.object) (r.property * place_limit + r.object)
    (λ a. omega arith) (λ a. omega arith) (λ a b. omega arith) (λ a b. omega arith)
    ∙ ap (λ t. ltb q.subject r.subject || eqb q.subject r.subject && t)
    (by_parts q.property r.property (q.property * place_limit + q.object) (r.property * place_limit + r.object) q.object r.object
    (λ a. omega arith) (λ a. omega arith) (λ a b. omega arith) (λ a b. omega arith)
    ∙ ap (λ t. ltb q.property r.property || eqb q.property r.property && t) (last (ltb q.object r.object) (eqb q.object r.object))))
  where
    last : (a b : Bool) → a ≡ a || b && false
    last true b = refl
    last false true = refl
    last false false = refl
