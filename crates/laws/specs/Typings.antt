-- A script's typings without lists, the greatest of them, and what each verdict says of them.
use Rattle.std.specs.Prelude.{◌≡◌, ℕ, List, [], ◌∷◌, T}
use Rattle.definitions.specs.Types.{Ty, plain, any_uri}
use Rattle.definitions.specs.Terms.{Sort}
use Rattle.definitions.specs.Tree.{Script}
use Rattle.definitions.specs.Typing.{script_typed, Written, unbound, undecided, fixed, type_at, above, Verdict, no_typing, no_greatest, greatest}

-- A written type is fixed; an open one may be any of the ten. (A variable that no pair binds stands as any_uri.)
abbrev pub Allowed : Written → Ty → Type 0
Allowed unbound τ = τ ≡ plain any_uri
Allowed undecided τ = Unit
Allowed (fixed σ) τ = τ ≡ σ

-- a type for each variable, as its written type allows
abbrev pub Fits : List Written → List Ty → Type 0
Fits [] [] = Unit
Fits [] (τ ∷ Γ) = ⊥
Fits (w ∷ ws) [] = ⊥
Fits (w ∷ ws) (τ ∷ Γ) = Allowed w τ × Fits ws Γ

-- types that the written ones allow and the rules take
abbrev pub IsTyping : (ℕ → Sort) → List Written → Script → List Ty → Type 0
IsTyping constants ws s Γ = Fits ws Γ × T (script_typed constants (type_at Γ) s)

-- one of them, and above each of them
abbrev pub IsGreatest : (List Ty → Type 0) → List Ty → Type 0
IsGreatest Is Γ = Is Γ × ((Δ : List Ty) → Is Δ → T (above Γ Δ))

-- what a verdict says of them: there is none; there are some, and none is above all; this one is above all
abbrev pub Says : (List Ty → Type 0) → Verdict → Type 0
Says Is no_typing = (Γ : List Ty) → Is Γ → ⊥
Says Is no_greatest = ((Γ : List Ty) × Is Γ) × ((Γ : List Ty) → IsGreatest Is Γ → ⊥)
Says Is (greatest Γ) = IsGreatest Is Γ
