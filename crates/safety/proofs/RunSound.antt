-- A run of a sound state: no fault, every state that it passes is sound, and its steps keep to the budget.
use Prim.Native.Nat.{ℕ, zero, suc, ◌≤◌}
use native.Mathlib.Omega.{arith}
use mathlib.Core.Path.{◌≡◌, refl}
use mathlib.Core.List.{List, [], ◌∷◌}
use lib.ListN.{length}
use lib.IntN.{ℤ}
use Rattle.definitions.specs.Typing.{type_at}
use Rattle.definitions.specs.Outcome.{Outcome}
use Rattle.definitions.specs.Machine.{State, Next, step, stand, Run, still, preceded, go_on, run, last_of}
use Rattle.definitions.specs.Calls.{Checked, setting_of}
use Rattle.definitions.specs.declared.RunState.TheVariants.{Spent}
use Rattle.laws.specs.Lists.{All}
use Rattle.laws.specs.Outcomes.{Fine, fine}
use Rattle.laws.proofs.NoFault.{fine-then}
use Rattle.laws.specs.Sound.{Accepted, Sound}
use Rattle.safety.proofs.StepSound.{NextSound, next-sound, look-sound}

-- every state passed is sound; the steps are at most the budget, and as many where the run ends spent
pub record RunSound (c : Checked) (budget : ℕ) (r : Run) : Type 0 where
  pub passed : All (Sound c) r.passed
  pub steps : length r.passed ≤ budget
  pub spent : r.ending ≡ Spent → length r.passed ≡ budget

module _ (c : Checked) (accepted : Accepted c) (ranks : List ℕ) (clock : ℤ) where
  go-on-sound : (budget : ℕ) (more : State → Outcome Run) → ((s : State) → Sound c s → Fine (RunSound c budget) (more s))
      → (n : Next) → NextSound c n → Fine (RunSound c (suc budget)) (go_on more n)
  unfolding go_on
  go-on-sound budget more k (step s) h =
      fine-then (k s h) λ r p.
      fine {a = preceded s r} (record { passed = (h, p.passed); steps = omega (arith, p.steps); spent = λ e. omega (arith, p.spent e) })
  go-on-sound budget more k (stand r) h = fine {a = still r} (record { passed = tt; steps = omega arith; spent = λ e. absurd (h e) })

  pub run_sound : (budget : ℕ) (s : State) → Sound c s → Fine (RunSound c budget) (run (setting_of c ranks clock) (type_at c.types) budget s)
  unfolding run
  run_sound zero s h = fine-then (look-sound c accepted ranks clock s h) λ r p. fine (record { passed = tt; steps = omega arith; spent = λ e. refl })
  run_sound (suc budget) s h =
      fine-then (next-sound c accepted ranks clock s h) λ n p. go-on-sound budget (run (setting_of c ranks clock) (type_at c.types) budget) (run_sound budget) n p

pub last-sound : (c : Checked) (s : State) (passed : List State) → Sound c s → All (Sound c) passed → Sound c (last_of s passed)
last-sound c s [] h k = h
last-sound c s (x ∷ xs) h k = last-sound c x xs k.0 k.1
