-- The run call, refusal by refusal, and its result where nothing is refused.
use Rattle.std.specs.Prelude.{Ok, Err}
use Rattle.definitions.specs.declared.Refusal.{Refusal}
use Rattle.definitions.specs.declared.Refusal.TheVariants.{BadRun}
use Prim.Native.Nat.{ℕ, ◌≤◌}
use mathlib.Core.Path.{◌≡◌, refl, sym, ap, ◌∙◌}
use mathlib.Core.List.{List}
use mathlib.Core.Bool.{Bool, true, false, ◌&&◌}
use lib.Dec.{T, leb, leb→le}
use lib.IntN.{ℤ}
use lib.ListN.{length}
use Rattle.definitions.specs.Limits.{budget_limit, depth_limit, graph_limit, variable_limit}
use Rattle.definitions.specs.Bytes.{signed}
use Rattle.definitions.specs.Terms.{is_date_time}
use Rattle.definitions.specs.Typing.{type_at}
use Rattle.definitions.specs.Outcome as Outcomes
use Rattle.definitions.specs.Outcome.{Outcome, ok}
use Rattle.definitions.specs.Machine.{State, Run, last_of}
use Rattle.definitions.specs.Machine as Machine
use Rattle.definitions.specs.Saved.{saved_control, saved_store}
use Rattle.definitions.specs.Result.{Result, OrRefusal, refused, passed, ◌>>=◌}
use Rattle.definitions.specs.Calls as Calls
use Rattle.definitions.specs.Calls.{Checked, reported, setting_of, Lent, entry_tests, run_in, Running, run_tests, ran_of, run_result, run_call}
use Rattle.definitions.specs.declared.SavedControl.{SavedControl}
use Rattle.definitions.specs.declared.SavedStore.{SavedStore}
use Rattle.definitions.specs.declared.SavedRun.{SavedRun}
use Rattle.definitions.specs.declared.Ran.{Ran}
use Rattle.laws.proofs.Tests.{true_is, and_left, and_right}
use Rattle.laws.proofs.Results.{require-after, require-refused, bind-refused, bind-passed}
use Rattle.laws.proofs.SoundIn.{SoundIn}
use Rattle.laws.proofs.RunStore.{run-keeps, last-all}
use Rattle.machine.specs.declared.Stopped.{Stopped}
use Rattle.store.specs.Canonical.{canonical_control, canonical_store}
use Rattle.answers.specs.Lends.{LendsStore}
use Rattle.machine.specs.Running.{RunOf}
use Rattle.answers.proofs.StartLaws.{lends_held}
use Rattle.entry.specs.declared.Entered.{Entered}
use Rattle.running.specs.Refused.{handed_back}
use Rattle.lengths.specs.Lent.{lent_of}
use Rattle.entry.specs.Entry.{context_of, Found}
use Rattle.entry.proofs.PassedLaws.{passed-10, ranked, types-kept, types-reported, control-held, store-saved}

-- ── refusals ────────────────────────────────────────────────────────────────────────────────

module _ (l : Lent) (saved : SavedRun) (budget : ℕ) (now : ℤ) where
  -- what comes after soundness
  abbrev after : Calls.Sound → Result Running
  after x = run_in x.checked l.ranks budget now x.state >>= λ r. passed (record { checked = x.checked; state = x.state; run = r })

  pub entry-refused : {n : Refusal} → entry_tests l saved ≡ refused n → {r : OrRefusal Ran} → r ≡ Err n → run_call l saved budget now ≡ ok (handed_back saved r)
  unfolding run_call run_tests run_result
  entry-refused e k = ap (run_result saved) (bind-refused after e) ∙ ap (λ (r : OrRefusal Ran). ok (handed_back saved r)) (sym k)

  module _ (x : Calls.Sound) (entered : entry_tests l saved ≡ passed x) where
    goes_on : run_call l saved budget now ≡ run_result saved (after x)
    unfolding run_call run_tests
    goes_on = ap (run_result saved) (bind-passed after entered)

    abbrev s : State
    s = x.state

    abbrev c : Checked
    c = x.checked

    abbrev machine : Outcome Run
    machine = Machine.run (setting_of c l.ranks now) (type_at c.types) budget s

    abbrev limits : Bool
    limits = leb budget budget_limit && is_date_time now

    pub refused-11 : limits ≡ false → run_call l saved budget now ≡ ok (handed_back saved (Err BadRun))
    unfolding run_in run_result ◌>>=◌
    refused-11 e =
        goes_on
        ∙ ap (λ m. run_result saved (m >>= λ r. passed (record { checked = c; state = s; run = r }))) (require-refused BadRun (passed machine) e)

    pub ran : limits ≡ true → (m : Run) → machine ≡ ok m → {r : Ran} → r ≡ ran_of c s m → run_call l saved budget now ≡ ok r
    unfolding run_in run_result ◌>>=◌ Outcomes.◌>>=◌
    ran e m h k =
        goes_on
        ∙ ap (λ m. run_result saved (m >>= λ r. passed (record { checked = c; state = s; run = r }))) (require-after BadRun limits (passed machine) (true_is limits e))
        ∙ ap (λ (o : Outcome Run). Outcomes.◌>>=◌ o (λ r. ok (ran_of c s r))) h
        ∙ ap ok (sym k)

-- ── what the machine is lent ────────────────────────────────────────────────────────────────

module _ (ranks terms schema script table store : List ℕ) (saved : SavedRun)
    (x : Calls.Sound) (entered : entry_tests (lent_of ranks terms schema script table store) saved ≡ passed x) (r : Entered) (rows leasts : List ℕ)
    (f : Found (lent_of ranks terms schema script table store) saved rows leasts x r)
    (sixteen : length saved.control.bound ≡ variable_limit) (places : length saved.store.fetched ≡ graph_limit) (levels : length saved.control.items ≡ depth_limit)
    (clean : SavedControl) (e : clean ≡ canonical_control script saved.control) (kept : SavedStore) (q : kept ≡ canonical_store saved.store)
    (budget clock : ℕ) (limits : leb budget budget_limit && is_date_time (signed clock) ≡ true) where
  abbrev l : Lent
  l = lent_of ranks terms schema script table store

  pub tested : SoundIn l saved x
  tested = passed-10 ranks terms schema script table store saved x entered

  pub in-range : T (leb budget budget_limit && is_date_time (signed clock))
  in-range = true_is (leb budget budget_limit && is_date_time (signed clock)) limits

  abbrev pub lends : LendsStore script ranks table rows leasts (context_of r saved clock) clean kept
  lends =
      lends_held l saved x tested clean kept (types-kept ranks terms schema script table store saved x entered e)
      (control-held ranks terms schema script table store saved x entered e sixteen levels) (store-saved ranks terms schema script table store saved x entered places q)
      (ranked ranks terms schema script table store saved x entered) (sym f.loaded)
      (record { clocked = and_right (leb budget budget_limit) (is_date_time (signed clock)) in-range }) (f.lent clock)

  pub budget-small : budget ≤ budget_limit
  budget-small = leb→le budget budget_limit (and_left (leb budget budget_limit) (is_date_time (signed clock)) in-range)

  -- its result is the call's
  pub ran-is : (end : Stopped) → ((w : LendsStore script ranks table rows leasts (context_of r saved clock) clean kept) → RunOf w.lends budget end)
      → {a : Ran} → a ≡ record { answer = Ok (record { steps = end.steps; state = end.ending }); saved = record { control = end.control; store = kept } }
      → run_call l saved budget (signed clock) ≡ ok a
  unfolding ran_of
  ran-is end h k =
      let o = h lends in
      let c = x.checked in
      let last = last_of x.state o.ran.passed in
      let types = types-reported ranks terms schema script table store saved x entered e in
      let control : end.control ≡ saved_control (reported c) last.control = o.control ∙ ap (λ (ts : List ℕ). saved_control ts last.control) types in
      let same : last.store ≡ x.state.store =
      last-all (λ s. s.store ≡ x.state.store) x.state o.ran.passed refl
      (run-keeps (setting_of c ranks (signed clock)) (type_at c.types) budget x.state o.ran o.no_fault) in
      let stored : kept ≡ saved_store last.store = store-saved ranks terms schema script table store saved x entered places q ∙ ap saved_store (sym same) in
      ran l saved budget (signed clock) x entered limits o.ran o.no_fault
      (k ∙ (λ i. record { answer = Ok (record { steps = (o.steps i); state = (o.ending i) }); saved = record { control = control i; store = stored i } }))
