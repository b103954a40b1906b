-- What the tests of a run call and of a page call found where nothing is refused; and that a run call meets no fault.
use Rattle.definitions.specs.declared.Refusal.TheVariants.{BadRun}
use Prim.Native.Nat.{ℕ}
use mathlib.Core.Path.{◌≡◌, refl, subst, ◌∙◌}
use mathlib.Core.List.{List}
use mathlib.Core.Bool.{◌&&◌}
use lib.Dec.{T, leb}
use lib.IntN.{ℤ}
use Rattle.definitions.specs.Limits.{budget_limit}
use Rattle.definitions.specs.Terms.{is_date_time}
use Rattle.definitions.specs.Typing.{type_at}
use Rattle.definitions.specs.Outcome as Outcomes
use Rattle.definitions.specs.Outcome.{Outcome, ok}
use Rattle.definitions.specs.Machine.{State, Run, run}
use Rattle.definitions.specs.Result.{Result, passed, ◌>>=◌}
use Rattle.definitions.specs.Calls.{Lent, lengths_fit, Sound, entry_tests, run_in, Running, run_tests, ran_of, run_result, run_call, setting_of}
use Rattle.definitions.specs.Calls.{PageTaken, take_in, Taking, page_tests}
use Rattle.definitions.specs.declared.SavedRun.{SavedRun}
use Rattle.laws.proofs.NoFault.{fine-ok}
use Rattle.laws.proofs.Results.{passed_is, bind_inv, require-after-inv}
use Rattle.laws.proofs.SoundIn.{SoundIn, sound-in, is-accepted, entry-inv}
use Rattle.safety.proofs.RunSound.{RunSound, run_sound}

-- ── a run ───────────────────────────────────────────────────────────────────────────────────

pub record RunPassed (l : Lent) (saved : SavedRun) (budget : ℕ) (now : ℤ) (x : Running) : Type 0 where
  pub lengths : T (lengths_fit l)
  pub sound : SoundIn l saved (record { checked = x.checked; state = x.state })
  pub limits : T (leb budget budget_limit && is_date_time now)
  pub is_run : x.run ≡ run (setting_of x.checked l.ranks now) (type_at x.checked.types) budget x.state

module _ (l : Lent) (saved : SavedRun) (budget : ℕ) (now : ℤ) (x : Running) where
  pub run-passed : run_tests l saved budget now ≡ passed x → RunPassed l saved budget now x
  unfolding run_tests run_in
  run-passed e =
      let made : Sound → Outcome Run → Running = λ y o. record { checked = y.checked; state = y.state; run = o } in
      let rest : Sound → Result Running = λ y. run_in y.checked l.ranks budget now y.state >>= λ o. passed (made y o) in
      let i = bind_inv (entry_tests l saved) rest e in
      let y = i.0 in
      let p = entry-inv l saved i.1 in
      let b = bind_inv (run_in y.checked l.ranks budget now y.state) (λ o. passed (made y o)) i.2 in
      let machine = run (setting_of y.checked l.ranks now) (type_at y.checked.types) budget y.state in
      let i₁₁ = require-after-inv BadRun (leb budget budget_limit && is_date_time now) (passed machine) b.1 in
      let found : made y b.0 ≡ x = passed_is b.2 in
      let same : machine ≡ b.0 = passed_is i₁₁.1 in
      subst (RunPassed l saved budget now) found
      (subst (λ (o : Outcome Run). RunPassed l saved budget now (made y o)) same
      (record { lengths = p.0; sound = sound-in l saved y p.2; limits = i₁₁.0; is_run = refl }))

  -- the machine meets no fault, and passes sound states only
  pub run-fine : RunPassed l saved budget now x → (r : Run) × (x.run ≡ ok r) × RunSound x.checked budget r
  run-fine p =
      let y : Sound = record { checked = x.checked; state = x.state } in
      let f = fine-ok (run_sound x.checked (is-accepted l saved y p.sound) l.ranks now budget x.state p.sound.sound) in
      (f.0, p.is_run ∙ f.1, f.2)

  -- and the call gives what it did
  pub run-gives : run_tests l saved budget now ≡ passed x → (r : Run) → x.run ≡ ok r
      → run_call l saved budget now ≡ ok (ran_of x.checked x.state r)
  unfolding run_call run_result Outcomes.◌>>=◌
  run-gives e r f = rw (e, f) refl

-- ── a page ──────────────────────────────────────────────────────────────────────────────────

pub record TakingPassed (l : Lent) (saved : SavedRun) (graph : ℕ) (page : List ℕ) (x : Taking) : Type 0 where
  pub lengths : T (lengths_fit l)
  pub state : State
  pub sound : SoundIn l saved (record { checked = x.checked; state = state })
  pub is_taken : take_in x.checked graph page state ≡ passed x.taken

module _ (l : Lent) (saved : SavedRun) (graph : ℕ) (page : List ℕ) (x : Taking) where
  pub taking-passed : page_tests l saved graph page ≡ passed x → TakingPassed l saved graph page x
  unfolding page_tests
  taking-passed e =
      let made : Sound → PageTaken → Taking = λ y k. record { checked = y.checked; taken = k } in
      let rest : Sound → Result Taking = λ y. take_in y.checked graph page y.state >>= λ k. passed (made y k) in
      let i = bind_inv (entry_tests l saved) rest e in
      let y = i.0 in
      let p = entry-inv l saved i.1 in
      let b = bind_inv (take_in y.checked graph page y.state) (λ k. passed (made y k)) i.2 in
      let found : made y b.0 ≡ x = passed_is b.2 in
      subst (TakingPassed l saved graph page) found
      (record { lengths = p.0; state = y.state; sound = sound-in l saved y p.2; is_taken = b.1 })
