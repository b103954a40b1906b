-- Document 01, "Typing" and refusals 8 and 9: what the verdict on a script says, for all constants, written types and scripts.
use Rattle.std.specs.Prelude.{◌≡◌, ◌↔◌, ℕ, List}
use Rattle.definitions.specs.Types.{Ty}
use Rattle.definitions.specs.Terms.{Sort}
use Rattle.definitions.specs.Tree.{Script}
use Rattle.definitions.specs.Typing.{Written, no_typing, no_greatest, greatest, verdict}
use Rattle.laws.specs.Typings.{IsTyping, IsGreatest}

-- `IsTyping`: each variable has a type that its written type allows, and the rules take it. `IsGreatest`: a typing that is above every typing.
pub record VerdictClaim (constants : ℕ → Sort) (ws : List Written) (s : Script) : Type 0 where
  -- a script is accepted with the typing that is above every typing
  pub accepted : (Γ : List Ty) → (verdict constants ws s ≡ greatest Γ) ↔ IsGreatest (IsTyping constants ws s) Γ
  -- refusal 8: no typing
  pub refusal-8 : (verdict constants ws s ≡ no_typing) ↔ ((Γ : List Ty) → IsTyping constants ws s Γ → ⊥)
  -- refusal 9: typings, none above the rest
  pub refusal-9 : (verdict constants ws s ≡ no_greatest)
      ↔ (((Γ : List Ty) × IsTyping constants ws s Γ) × ((Γ : List Ty) → IsGreatest (IsTyping constants ws s) Γ → ⊥))
