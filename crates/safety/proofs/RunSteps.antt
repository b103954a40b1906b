-- A run of a sound state passes steps of the machine one after the other, until it stands or the budget is spent.
use Prim.Native.Nat.{ℕ, zero, suc}
use native.Mathlib.Omega.{arith}
use mathlib.Core.List.{List}
use mathlib.Core.Path.{◌≡◌, refl, sym, ap, ◌∙◌}
use mathlib.Core.Logic.{inl, inr}
use lib.ListN.{length}
use lib.IntN.{ℤ}
use Rattle.definitions.specs.Typing.{type_at}
use Rattle.definitions.specs.Outcome.{Outcome, ok, ◌>>=◌}
use Rattle.definitions.specs.Evaluate.{Setting}
use Rattle.definitions.specs.Search.{Typing}
use Rattle.definitions.specs.Machine.{State, Next, step, stand, next, Run, still, preceded, ending_of, go_on, run, last_of}
use Rattle.definitions.specs.Calls.{Checked, setting_of}
use Rattle.definitions.specs.declared.RunState.{RunState}
use Rattle.laws.specs.Outcomes.{Fine, fine}
use Rattle.laws.proofs.NoFault.{fine-then, fine-ok}
use Rattle.laws.specs.Sound.{Accepted, Sound}
use Rattle.safety.proofs.StepSound.{NextSound, next-sound, look-sound}
use Rattle.safety.specs.Steps.{Ends, Took}

module _ (c : Checked) (accepted : Accepted c) (ranks : List ℕ) (clock : ℤ) where
  abbrev σ : Setting
  σ = setting_of c ranks clock

  abbrev Γ : Typing
  Γ = type_at c.types

  -- one more step, and one more of budget
  longer : (budget steps : ℕ) (s : State) (r : RunState) → Ends σ Γ budget steps s r
      → Ends σ Γ (suc budget) (suc steps) s r
  longer budget steps s r (inl e) = inl e
  longer budget steps s r (inr h) = inr (h.0, ap suc h.1, h.2, h.3)

  -- with no budget left
  told : (s : State) (r : RunState) (n : Next) → next σ Γ s ≡ ok n → ending_of n ≡ r → Ends σ Γ 0 0 s r
  told s r (step x) e f = inr (sym f, refl, x, e)
  told s r (stand q) e f = inl (e ∙ ap (λ (q : RunState). ok (stand q)) f)

  -- after a step, or where there is none
  go-on-takes : (budget : ℕ) (more : State → Outcome Run) → ((x : State) → Sound c x → Fine (Took σ Γ budget x) (more x))
      → (s : State) (n : Next) → next σ Γ s ≡ ok n → NextSound c n → Fine (Took σ Γ (suc budget) s) (go_on more n)
  unfolding go_on
  go-on-takes budget more takes s (step x) e k =
      fine-then (takes x k) λ r t. fine {a = preceded x r} (record {
        steps = (e, t.steps);
        few = omega (arith, t.few);
        ends = longer budget (length r.passed) (last_of x r.passed) r.ending t.ends;
      })
  go-on-takes budget more takes s (stand q) e k = fine {a = still q} (record { steps = tt; few = omega arith; ends = inl e })

  pub run-takes : (budget : ℕ) (s : State) → Sound c s → Fine (Took σ Γ budget s) (run σ Γ budget s)
  unfolding run ◌>>=◌
  run-takes zero s h =
      fine-then (look-sound c accepted ranks clock s h) λ r p.
      let n = fine-ok p in fine {a = still r} (record { steps = tt; few = omega arith; ends = told s r n.0 n.1 n.2 })
  run-takes (suc budget) s h =
      let n = fine-ok (next-sound c accepted ranks clock s h) in
      rw n.1 (go-on-takes budget (run σ Γ budget) (run-takes budget) s n.0 n.1 n.2)
