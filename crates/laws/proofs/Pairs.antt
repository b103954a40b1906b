-- The pairs of a block: their bytes say the variables that are read.
use Prim.Native.Nat.{ℕ, zero, suc, ◌+◌}
use mathlib.Core.Path.{◌≡◌, refl, ap, ap₂, sym, ◌∙◌}
use mathlib.Core.List.{List, ◌∷◌}
use mathlib.Core.Option.{some}
use Rattle.definitions.specs.Bytes.{byte, onward}
use Rattle.definitions.specs.Tree.{Binder}
use Rattle.definitions.specs.Reading.{binder_at, binders_at, written_of}
use Rattle.definitions.specs.Scope.{variables_of}
use Rattle.laws.proofs.Options.{provided-inv, onward-inv, some_is, some-not-none}
use Rattle.laws.specs.Pairs.{pair_variables}

pair-variable : (s : List ℕ) (at : ℕ) (b : Binder) → binder_at s at ≡ some b → b.variable ≡ byte s at
unfolding binder_at
pair-variable s at b e =
    let p = provided-inv _ (onward (written_of (byte s (at + 1))) (λ w. some (record { variable = byte s at; written = w }))) e in
    let q = onward-inv (written_of (byte s (at + 1))) (λ w. some (record { variable = byte s at; written = w })) p.1 in
    ap (λ (x : Binder). x.variable) (sym (some_is q.2))

pub pair-variables : (left count : ℕ) (s : List ℕ) (at : ℕ) (bs : List Binder) → binders_at left count s at ≡ some bs → variables_of bs ≡ pair_variables count s at
unfolding binders_at pair_variables
pair-variables zero zero s at bs e = ap variables_of (sym (some_is e))
pair-variables zero (suc count) s at bs e = absurd (some-not-none e refl)
pair-variables (suc left) zero s at bs e =
    pair-variables left zero s (at + 2) bs (provided-inv _ (binders_at left zero s (at + 2)) e).1
pair-variables (suc left) (suc count) s at bs e =
    let p = onward-inv (binder_at s at) (λ b. onward (binders_at left count s (at + 2)) (λ bs. some (b ∷ bs))) e in
    let q = onward-inv (binders_at left count s (at + 2)) (λ bs. some (p.0 ∷ bs)) p.2 in
    ap variables_of (sym (some_is q.2))
    ∙ ap₂ {C = List ℕ} ◌∷◌ (pair-variable s at p.0 p.1) (pair-variables left count s (at + 2) q.0 q.1)
