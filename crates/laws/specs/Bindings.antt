-- Term numbers, bindings and tuples that hold terms of given types.
use Rattle.std.specs.Prelude.{ℕ, ◌≡◌, List, [], ◌∷◌, Bool, T}
use Rattle.std.proofs.Math.Option.{some}
use Rattle.std.proofs.Math.ListN.{get_elem?}
use Rattle.definitions.specs.Types.{Datatype, Ty, plain}
use Rattle.definitions.specs.Terms.{Term, Schema, has_type}
use Rattle.definitions.specs.Evaluate.{Bindings}
use Rattle.definitions.specs.Search.{Typing, Tuple}

-- a table goes on with more terms, or with none
abbrev pub Extends : List Term → List Term → Type 0
Extends loaded terms = (i : ℕ) (t : Term) → get_elem? loaded i ≡ some t → get_elem? terms i ≡ some t

-- number i of the table is a term of type τ
pub record Holds (S : Schema) (terms : List Term) (i : ℕ) (τ : Ty) : Type 0 where
  pub term : Term
  pub there : get_elem? terms i ≡ some term
  pub typed : T (has_type S term τ)

-- number i of the table is a URI
abbrev pub HoldsURI : Schema → List Term → ℕ → Type 0
HoldsURI S terms i = Holds S terms i (plain Datatype.any_uri)

pub record Bound (β : Bindings) (v : ℕ) : Type 0 where
  pub number : ℕ
  pub is : β v ≡ some number

-- each bound variable holds a term of its type
abbrev pub WellBound : Schema → Typing → List Term → Bindings → Type 0
WellBound S Γ terms β = (v i : ℕ) → β v ≡ some i → Holds S terms i (Γ v)

-- the variables that a test names are bound
abbrev pub BoundIn : Bindings → (ℕ → Bool) → Type 0
BoundIn β names = (v : ℕ) → T (names v) → Bound β v

-- a tuple's terms have the variables' types
abbrev pub Fits : Schema → Typing → List Term → (variables : List ℕ) → Tuple → Type 0
Fits S Γ terms [] [] = Unit {0}
Fits S Γ terms [] (i ∷ t) = ⊥
Fits S Γ terms (v ∷ vs) [] = ⊥
Fits S Γ terms (v ∷ vs) (i ∷ t) = Holds S terms i (Γ v) × Fits S Γ terms vs t
