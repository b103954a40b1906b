-- Document 01, "The machine": answers, tuples of term numbers tried in order up to the answer taken.
use Rattle.std.specs.Prelude.{ℕ, zero, suc, List, [], ◌∷◌, ◌++◌, map, Bool, true, false, cond, eqb}
use Rattle.std.proofs.Math.Option.{Option, none, some}
use Rattle.definitions.specs.Lists.{keep}
use Rattle.definitions.specs.Types.{Ty}
use Rattle.definitions.specs.Terms.{Term, Schema, has_type}
use Rattle.definitions.specs.Tree.{Query}
use Rattle.definitions.specs.Outcome.{Outcome, ok, ◌>>=◌}
use Rattle.definitions.specs.Values.{before}
use Rattle.definitions.specs.Evaluate.{Setting, Bindings, Quad, query}

-- the type of each variable
abbrev pub Typing : Type 0
Typing = ℕ → Ty

-- term numbers, one for each variable of a block
abbrev pub Tuple : Type 0
Tuple = List ℕ

-- the numbers of the terms that have a type, rising
unfoldable pub fitting : Schema → Ty → List Term → List ℕ
fitting S τ [] = []
fitting S τ (t ∷ ts) = cond (has_type S t τ) (zero ∷ map suc (fitting S τ ts)) (map suc (fitting S τ ts))

-- each number in front of each tuple, the number weighing most
unfoldable pub each_in_front : List ℕ → List Tuple → List Tuple
each_in_front [] ts = []
each_in_front (i ∷ is) ts = map (λ t. i ∷ t) ts ++ each_in_front is ts

-- all tuples whose terms have the variables' types, in order, the first variable weighing most
unfoldable pub tuples : Schema → Typing → List Term → (variables : List ℕ) → List Tuple
tuples S Γ terms [] = [] ∷ []
tuples S Γ terms (v ∷ vs) = each_in_front (fitting S (Γ v) terms) (tuples S Γ terms vs)

-- a tuple comes before another
abbrev pub earlier : Tuple → Tuple → Bool
earlier a b = before (λ n. n) a b

-- those after the tuple last used
unfoldable pub after : (last : Option Tuple) → List Tuple → List Tuple
after none ts = ts
after (some last) ts = keep (earlier last) ts

-- the first that passes; a fault at one tried before it, or at it, stops
unfoldable pub first : (Tuple → Outcome Bool) → List Tuple → Outcome (Option Tuple)
first test [] = ok none
first test (t ∷ ts) = do
  holds ← test t
  elim holds [ true ↦ ok (some t) | false ↦ first test ts ]

-- a tuple's terms for a block's variables; the others stay
unfoldable pub bind : (variables : List ℕ) → Tuple → Bindings → Bindings
bind [] t β = β
bind (v ∷ vs) [] β = β
bind (v ∷ vs) (i ∷ t) β = λ x. cond (eqb x v) (some i) (bind vs t β x)

-- a block's first answer, after the tuple last used
unfoldable pub answer : Setting → Typing → List Term → List Quad → Bindings → (variables : List ℕ) → Query → (last : Option Tuple) → Outcome (Option Tuple)
answer σ Γ terms quads β vs q last = first (λ t. query σ terms quads (bind vs t β) q) (after last (tuples σ.schema Γ terms vs))
