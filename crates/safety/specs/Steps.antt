-- A run without its definition by recursion: the states that it passes are steps one after the other, and it goes on until the machine stands or the budget is spent.
use Rattle.std.specs.Prelude.{ℕ, ◌≤◌, ◌≡◌, ◌⊎◌, List, [], ◌∷◌, length}
use Rattle.definitions.specs.Outcome.{ok}
use Rattle.definitions.specs.Evaluate.{Setting}
use Rattle.definitions.specs.Search.{Typing}
use Rattle.definitions.specs.Machine.{State, step, stand, next, Run, last_of}
use Rattle.definitions.specs.declared.RunState.{RunState}
use Rattle.definitions.specs.declared.RunState.TheVariants.{Spent}

module _ (σ : Setting) (Γ : Typing) where
  -- each state is one step of the machine after the one before
  abbrev pub Steps : State → List State → Type 0
  Steps s [] = Unit {0}
  Steps s (x ∷ xs) = (next σ Γ s ≡ ok (step x)) × Steps x xs

  -- ended, wanted or waiting: the machine stands; spent: as many steps as the budget, and there is one more to take
  abbrev pub Ends : (budget steps : ℕ) → State → RunState → Type 0
  Ends budget steps s r = (next σ Γ s ≡ ok (stand r)) ⊎ ((r ≡ Spent) × (steps ≡ budget) × (x : State) × (next σ Γ s ≡ ok (step x)))

  pub record Took (budget : ℕ) (s : State) (r : Run) : Type 0 where
    pub steps : Steps s r.passed
    pub few : length r.passed ≤ budget
    pub ends : Ends budget (length r.passed) (last_of s r.passed) r.ending
