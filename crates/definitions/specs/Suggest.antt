-- Document 02, Ask 13: one written type that would do.
use Rattle.std.specs.Prelude.{ℕ, List, [], ◌∷◌, Bool, true, false, get_or, set}
use Rattle.std.proofs.Math.Option.{Option, none, some}
use Rattle.definitions.specs.Lists.{find}
use Rattle.definitions.specs.Types.{Ty, all_types}
use Rattle.definitions.specs.Terms.{Sort}
use Rattle.definitions.specs.Tree.{Script}
use Rattle.definitions.specs.Scope.{variables}
use Rattle.definitions.specs.Typing.{Written, unbound, fixed, is_open, Verdict, no_typing, no_greatest, greatest, verdict}

-- a type to write at a variable
pub record Suggestion : Type 0 where
  pub variable : ℕ
  pub type : Ty

-- over the written types, and a test: does a type do at a variable?
module _ (ws : List Written) (does : ℕ → Ty → Bool) where
  -- of an open variable the type of the lowest code that does
  unfoldable pub lowest_type : ℕ → Option Ty
  lowest_type x = elim (is_open (get_or ws x unbound)) [ true ↦ find (does x) all_types | false ↦ none ]

  -- the first of some variables for which there is one, and for it that type
  unfoldable pub lowest_in : List ℕ → Option Suggestion
  lowest_in [] = none
  lowest_in (x ∷ xs) = elim (lowest_type x) [ none ↦ lowest_in xs | some τ ↦ some (record { variable = x; type = τ }) ]

abbrev pub is_accepted : Verdict → Bool
is_accepted no_typing = false
is_accepted no_greatest = false
is_accepted (greatest Γ) = true

module _ (constants : ℕ → Sort) (ws : List Written) (s : Script) where
  -- the script is accepted with the type written at the variable and nothing else changed
  unfoldable pub would_do : ℕ → Ty → Bool
  would_do x τ = is_accepted (verdict constants (set ws x (fixed τ)) s)

  -- the lowest open variable for which one exists, and for it the lowest type code; none where no single one does
  unfoldable pub suggestion : Option Suggestion
  suggestion = lowest_in ws would_do variables
