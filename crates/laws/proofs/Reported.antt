-- The reported types by variable: the code is the type's exactly where a pair binds the variable.
use Prim.Native.Nat.{ℕ, zero, suc, ◌<◌}
use native.Mathlib.Omega.{arith}
use mathlib.Core.Path.{◌≡◌, refl, sym, ◌∙◌, ap, subst}
use mathlib.Core.List.{List, [], ◌∷◌}
use mathlib.Core.Bool.{Bool, true, false, ◌||◌}
use mathlib.Core.Option.{Option, none, some}
use lib.Dec.{T, eqb}
use lib.ListN.{length, get_or}
use borrow.Author.Tests.{eqb-true, eqb-false, eq-eqb, ne_eqb}
use Rattle.definitions.specs.Limits.{variable_limit}
use Rattle.definitions.specs.Lists.{is_in}
use Rattle.definitions.specs.Types.{Ty, type_of_code}
use Rattle.definitions.specs.Tree.{Binder, Script}
use Rattle.definitions.specs.Scope.{variables_of, binders_of}
use Rattle.definitions.specs.Typing.{Written, unbound, undecided, fixed, annotated, written_in, written_types, type_at}
use Rattle.definitions.specs.Calls.{reported_type, reported_types}
use Rattle.laws.proofs.Tests.{is_true}
use Rattle.laws.proofs.Order.{type-of-code}
use Rattle.laws.proofs.Variables.{at-variable}

pub reported-at : (ws : List Written) (Γ : List Ty) (v : ℕ) → length Γ ≡ length ws → v < length ws
    → get_or (reported_types ws Γ) v 0 ≡ reported_type (get_or ws v unbound) (type_at Γ v)
unfolding reported_types
reported-at [] Γ v e h = absurd (omega arith)
reported-at (w ∷ ws) [] v e h = absurd (omega arith)
reported-at (w ∷ ws) (τ ∷ Γ) zero e h = refl
reported-at (w ∷ ws) (τ ∷ Γ) (suc v) e h = reported-at ws Γ v (omega arith) (omega arith)

-- a pair binds the variable
abbrev pub is_written : Written → Bool
is_written unbound = false
is_written undecided = true
is_written (fixed τ) = true

annotated-written : (o : Option Ty) → is_written (annotated o) ≡ true
annotated-written none = refl
annotated-written (some τ) = refl

pub written-binds : (bs : List Binder) (v : ℕ) → is_written (written_in bs v) ≡ is_in v (variables_of bs)
unfolding written_in
written-binds [] v = refl
written-binds (b ∷ bs) v = go (eqb b.variable v) refl (written-binds bs v)
  where
    go : (t : Bool) → eqb b.variable v ≡ t → is_written (written_in bs v) ≡ is_in v (variables_of bs)
        → is_written (elim t as (λ c. Written) [ true ↦ annotated b.written | false ↦ written_in bs v ]) ≡ (eqb v b.variable || is_in v (variables_of bs))
    go true e r =
        annotated-written b.written
        ∙ sym (ap (λ (x : Bool). x || is_in v (variables_of bs)) (eq-eqb v b.variable (sym (eqb-true b.variable v e))))
    go false e r =
        r ∙ sym (ap (λ (x : Bool). x || is_in v (variables_of bs)) (ne_eqb v b.variable (λ q. eqb-false b.variable v e (sym q))))

written-code : (w : Written) (τ : Ty) → is_written w ≡ true → type_of_code (reported_type w τ) ≡ some τ
written-code unbound τ e = absurd (subst T (sym e) tt)
written-code undecided τ e = type-of-code τ
written-code (fixed σ) τ e = type-of-code τ

module _ (root : Script) (Γ : List Ty) (n : length Γ ≡ variable_limit) (v : ℕ) (h : v < variable_limit) where
  -- the code of a variable: what its pair writes, and the type worked out
  pub variable-code : get_or (reported_types (written_types root) Γ) v 0 ≡ reported_type (written_in (binders_of root) v) (type_at Γ v)
  unfolding written_types
  variable-code =
      reported-at (written_types root) Γ v n h ∙ ap (λ (w : Written). reported_type w (type_at Γ v)) (at-variable (written_in (binders_of root)) unbound v h)

  -- of a variable that the script binds
  pub type-reported : T (is_in v (variables_of (binders_of root))) → type_of_code (get_or (reported_types (written_types root) Γ) v 0) ≡ some (type_at Γ v)
  type-reported m =
      ap type_of_code variable-code
      ∙ written-code (written_in (binders_of root) v) (type_at Γ v) (written-binds (binders_of root) v ∙ is_true (is_in v (variables_of (binders_of root))) m)
