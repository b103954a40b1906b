-- Flags for the variables, set one after the other by their uses.
use Prim.Native.Nat.{ℕ, ◌<◌}
use mathlib.Core.Bool.{Bool, true, false, not, ◌&&◌, ◌||◌, and-true, and-false, or-false}
use mathlib.Core.List.{List}
use mathlib.Core.Path.{◌≡◌, refl, sym, ap, ◌∙◌}
use native.Mathlib.Omega.{arith}
use lib.Dec.{eqb}
use lib.ListN.{length, set, length-set}
use lib.Seq.{get_or-set_same, get_or-set_other}
use borrow.Author.Tests.{eq-eqb, eqb-false}
use Rattle.definitions.specs.Limits.{variable_limit}
use Rattle.laws.proofs.Fields.{by-same}
use Rattle.laws.proofs.Variables.{at-variable, made-is, made-same}
use Rattle.laws.specs.Lists.{flag}
use Rattle.scope.specs.Uses.{with_uses}

-- ── flags set in a walk ─────────────────────────────────────────────────────────────────────

module _ (hidden : List Bool) where
  pub uses-length : (flags : List Bool) (test : ℕ → Bool) → length (with_uses hidden flags test) ≡ variable_limit
  unfolding with_uses
  uses-length flags test = refl

  pub uses-at : (flags : List Bool) (test : ℕ → Bool) (v : ℕ) → v < variable_limit → flag (with_uses hidden flags test) v ≡ (flag flags v || (not (flag hidden v) && test v))
  unfolding with_uses
  uses-at flags test v l = at-variable (λ v. flag flags v || (not (flag hidden v) && test v)) false v l

  nothing : (x h : Bool) → (x || (h && false)) ≡ x
  nothing x h = rw and-false (or-false x)

  pub uses-none : (flags : List Bool) → length flags ≡ variable_limit → flags ≡ with_uses hidden flags (λ v. false)
  unfolding with_uses
  uses-none flags l =
      sym (made-is false (λ v. flag flags v || (not (flag hidden v) && false)) flags l (λ v k. nothing (flag flags v) (not (flag hidden v))))

  twice : (x h f g : Bool) → ((x || (h && f)) || (h && g)) ≡ (x || (h && (f || g)))
  twice true h f g = refl
  twice false true f g = refl
  twice false false f g = refl

  pub uses-both : (flags : List Bool) {between after : List Bool} (f g : ℕ → Bool) → between ≡ with_uses hidden flags f → after ≡ with_uses hidden between g
      → after ≡ with_uses hidden flags (λ v. f v || g v)
  unfolding with_uses
  uses-both flags {between} {after} f g p q =
      q ∙ made-same (λ v. flag between v || (not (flag hidden v) && g v)) (λ v. flag flags v || (not (flag hidden v) && (f v || g v)))
      (λ v k. ap (λ (x : Bool). x || (not (flag hidden v) && g v)) (ap (λ (l : List Bool). flag l v) p ∙ uses-at flags f v k)
      ∙ twice (flag flags v) (not (flag hidden v)) (f v) (g v))

  pub uses-one : (flags : List Bool) (w : ℕ) → length flags ≡ variable_limit → w < variable_limit → set flags w (flag flags w || not (flag hidden w)) ≡ with_uses hidden flags (λ v. eqb v w)
  unfolding with_uses
  uses-one flags w l k =
      sym (made-is false (λ v. flag flags v || (not (flag hidden v) && eqb v w)) (set flags w (flag flags w || not (flag hidden w)))
      (length-set flags w (flag flags w || not (flag hidden w)) ∙ l)
      (λ v j. by-same v w
      (λ e. rw (e, eq-eqb w w refl, and-true) (sym (get_or-set_same flags w (flag flags w || not (flag hidden w)) false (omega arith))))
      (λ n. rw n (nothing (flag flags v) (not (flag hidden v)) ∙ sym (get_or-set_other flags w v (flag flags w || not (flag hidden w)) false (other v w n))))))
    where
      other : (v w : ℕ) → eqb v w ≡ false → v ≡ w → ⊥
      other v w n e = eqb-false v w n e
