-- The saved run handed back.
use Prim.Native.Nat.{ℕ, zero, suc}
use mathlib.Core.Path.{◌≡◌, refl, ap, sym, ◌∙◌}
use mathlib.Core.List.{List}
use Rattle.definitions.specs.Exports.{saved_bytes, saved_after}
use Rattle.definitions.specs.declared.SavedRun.{SavedRun}

module _ {n : ℕ} (r : SavedRun) (lent : List ℕ) where
  pub handed : {s : List ℕ} → n ≡ 0 → s ≡ saved_bytes r → s ≡ saved_after n r lent
  handed e p = p ∙ ap (λ (k : ℕ). saved_after k r lent) (sym e)

  pub kept : (n ≡ 0 → ⊥) → lent ≡ saved_after n r lent
  kept h = go n h
    where
      go : (k : ℕ) → (k ≡ 0 → ⊥) → lent ≡ saved_after k r lent
      go zero h = absurd (h refl)
      go (suc k) h = refl
