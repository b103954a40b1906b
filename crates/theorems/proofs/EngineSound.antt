-- One call on bytes: on the saved run and the tables of a sound state it does what the machine does, and leaves those of the machine's state.
use Rattle.definitions.specs.declared.Refusal.TheVariants.{WrongLength, BadRun, BadRanks}
use Prim.Native.Nat.{ℕ}
use native.Mathlib.Omega.{arith}
use mathlib.Core.Path.{◌≡◌, refl, sym, ap, subst, ◌∙◌}
use mathlib.Core.List.{List}
use mathlib.Core.Bool.{not, ◌&&◌}
use mathlib.Core.Option.{some}
use lib.Dec.{T, leb}
use lib.IntN.{ℤ}
use Rattle.definitions.specs.Limits.{budget_limit}
use Rattle.definitions.specs.Terms.{is_date_time}
use Rattle.definitions.specs.Typing.{type_at}
use Rattle.definitions.specs.Outcome as Outcomes
use Rattle.definitions.specs.Outcome.{Outcome, ok, fault}
use Rattle.definitions.specs.Machine.{State, Store, Run, run, last_of}
use Rattle.definitions.specs.Saved.{term_table, quad_table, saved_of}
use Rattle.definitions.specs.Result.{Result, refused, passed, ◌>>=◌, ◌>>◌, require}
use Rattle.definitions.specs.Calls as Calls
use Rattle.definitions.specs.Calls.{Checked, check, reported, Lent, tables_fit, lengths_fit, sound_in, setting_of, load_tests}
use Rattle.definitions.specs.Alphabet.{is_alphabet}
use Rattle.definitions.specs.Calls.{run_in, Running, run_tests, ran_of, run_result, run_call}
use Rattle.definitions.specs.Calls.{PageTaken, take_in, Taking, page_tests, PageResult, page_result, page_call}
use Rattle.definitions.specs.CallList.{ran, paged, Done, run_done, page_done, machine_call}
use Rattle.definitions.specs.declared.Ran.{Ran}
use Rattle.laws.proofs.Tests.{is_false}
use Rattle.laws.specs.Lists.{All}
use Rattle.laws.proofs.Results.{passed_is, require-after-inv, require-refused, bind-refused, bind-passed}
use Rattle.laws.specs.Valid.{Valid, ValidIn}
use Rattle.laws.proofs.Valid.{page-keeps-valid}
use Rattle.laws.proofs.RunStore.{run-keeps, last-all}
use Rattle.laws.specs.Sound.{Sound}
use Rattle.laws.proofs.SoundIn.{entry_of, entry-one, lengths-again, sound-again}
use Rattle.laws.proofs.NoFault.{ok-is}
use Rattle.theorems.specs.Hosts.{Kept, Lending, as_left, others, HostCall, lending, lengths_lent, fed, kept_of, Handed, lent_to, engine_call}
use Rattle.definitions.specs.declared.SavedRun.{SavedRun}

-- what a call hands back where the machine does this from a state
abbrev pub handed_of : Checked → Lending → State → Done → Handed
handed_of c as_left s d = record { answer = d.answer; left = kept_of c (last_of s d.passed) }
handed_of c (others l saved wrong) s d = record { answer = d.answer; left = record { saved = saved; term_table = l.term_table; quad_table = l.quad_table } }

pub answer-of : (c : Checked) (t : Lending) (s : State) (d : Done) → (handed_of c t s d).answer ≡ d.answer
answer-of c as_left s d = refl
answer-of c (others l saved wrong) s d = refl

-- refusal 1, as the machine tests it
abbrev fits : Lending → Result (Unit {0})
fits t = require WrongLength (tables_fit (lengths_lent t))

fits-as-left : {A : Type 0} (m : Result A) → (fits as_left >> m) ≡ m
unfolding tables_fit require ◌>>◌
fits-as-left m = refl

module _ (l : Lent) (saved : SavedRun) (wrong : T (not (lengths_fit l))) where
  fits-others : {A : Type 0} (m : Result A) → (fits (others l saved wrong) >> m) ≡ refused WrongLength
  fits-others m = require-refused WrongLength m (is_false (lengths_fit l) wrong)

  -- a call that is lent a table of another length tests nothing else
  run-one : (budget : ℕ) (now : ℤ) → run_tests l saved budget now ≡ refused WrongLength
  unfolding run_tests
  run-one budget now = bind-refused _ (entry-one l saved (is_false (lengths_fit l) wrong))

  page-one : (g : ℕ) (page : List ℕ) → page_tests l saved g page ≡ refused WrongLength
  unfolding page_tests
  page-one g page = bind-refused _ (entry-one l saved (is_false (lengths_fit l) wrong))

-- what is lent loads: 1 and 21 do not refuse it, and the check finds c
pub record Loads (l : Lent) (c : Checked) : Type 0 where
  pub lengths : T (lengths_fit l)
  pub ranks : T (is_alphabet l.ranks)
  pub checks : check l.terms l.schema l.script ≡ passed c

pub loads-of : {l : Lent} {c : Checked} → load_tests l ≡ passed c → Loads l c
unfolding load_tests
loads-of {l} e =
    let i = require-after-inv WrongLength (lengths_fit l) _ e in
    let j = require-after-inv BadRanks (is_alphabet l.ranks) _ i.1 in
    record { lengths = i.0; ranks = j.0; checks = j.1 }

module _ (l : Lent) (c : Checked) (loads : Loads l c) (s : State) (sound : Sound c s) (valid : ValidIn s) where
  abbrev kept : Kept
  kept = kept_of c s

  abbrev lent : Lent
  lent = lent_to l as_left kept

  fit : T (lengths_fit lent)
  fit = lengths-again l c loads.checks s sound valid loads.lengths

  found : sound_in lent kept.saved ≡ some (record { checked = c; state = s })
  found = sound-again l c loads.checks s sound valid

  -- ── a run ─────────────────────────────────────────────────────────────────────────────────

  module _ (budget : ℕ) (now : ℤ) where
    abbrev running : Outcome Run → Running
    running o = record { checked = c; state = s; run = o }

    -- refusal 1 is tested on the lengths, refusal 10 does not come, and 11 is the machine's
    run-tests : run_tests lent kept.saved budget now ≡ ((fits as_left >> run_in c l.ranks budget now s) >>= λ o. passed (running o))
    unfolding run_tests
    run-tests =
        let rest : Calls.Sound → Result Running = λ x.
        run_in x.checked l.ranks budget now x.state >>= λ o. passed (record { checked = x.checked; state = x.state; run = o }) in
        bind-passed rest (entry_of lent kept.saved fit loads.ranks found)
        ∙ sym (ap (λ m. m >>= λ o. passed (running o)) (fits-as-left (run_in c l.ranks budget now s)))

    -- what the host makes of it
    abbrev handed : Ran → Handed
    handed r = record { answer = ran r.answer; left = record { saved = r.saved; term_table = kept.term_table; quad_table = kept.quad_table } }

    -- a run keeps the store, and so the tables
    run-handed : (m : Result (Outcome Run)) → ((r : Run) → m ≡ passed (ok r) → (last_of s r.passed).store ≡ s.store) → (d : Done) → run_done m ≡ ok d
        → Outcomes.◌>>=◌ (run_result kept.saved (m >>= λ o. passed (running o))) (λ r. ok (handed r)) ≡ ok (handed_of c as_left s d)
    unfolding run_done run_result ran_of ◌>>=◌ Outcomes.◌>>=◌
    run-handed (refused n) same d e = ap (λ (d : Done). ok (handed_of c as_left s d)) (ok-is e)
    run-handed (passed (fault x)) same d e = absurd (let z : ◌≡◌ {A = ℕ} 0 1 = cc in omega arith)
    run-handed (passed (ok r)) same d e =
        let after = last_of s r.passed in
        let tables : (σ : Store) → Kept = λ σ.
        record { saved = saved_of (reported c) after; term_table = term_table σ.terms; quad_table = quad_table σ.quads } in
        ap (λ (σ : Store). ok (record { answer = ran (ran_of c s r).answer; left = tables σ })) (sym (same r refl))
        ∙ ap (λ (d : Done). ok (handed_of c as_left s d)) (ok-is e)

    store_same : (t : Lending) (r : Run) → (fits t >> run_in c l.ranks budget now s) ≡ passed (ok r) → (last_of s r.passed).store ≡ s.store
    unfolding run_in
    store_same t r e =
        let i₁ = require-after-inv WrongLength (tables_fit (lengths_lent t)) (run_in c l.ranks budget now s) e in
        let machine = run (setting_of c l.ranks now) (type_at c.types) budget s in
        let i₁₁ = require-after-inv BadRun (leb budget budget_limit && is_date_time now) (passed machine) i₁.1 in
        last-all (λ x. x.store ≡ s.store) s r.passed refl (run-keeps (setting_of c l.ranks now) (type_at c.types) budget s r (passed_is i₁₁.1))

    run_call_lem : (t : Lending) (d : Done) → machine_call c l.ranks (fed (HostCall.running t budget now)) s ≡ ok d
        → engine_call l (HostCall.running t budget now) kept ≡ ok (handed_of c t s d)
    unfolding machine_call engine_call run_call
    run_call_lem as_left d e =
        ap (λ m. Outcomes.◌>>=◌ (run_result kept.saved m) (λ r. ok (handed r))) run-tests
        ∙ run-handed (fits as_left >> run_in c l.ranks budget now s) (store_same as_left) d e
    run_call_lem (others x saved wrong) d e =
        unfold run_result run_done Outcomes.◌>>=◌ in
        let one = rw (fits-others x saved wrong (run_in c l.ranks budget now s)) at e in
        rw (run-one x saved wrong budget now) (ap (λ (d : Done). ok (handed_of c (others x saved wrong) s d)) (ok-is one))

    run_store : (m : Result (Outcome Run)) → ((r : Run) → m ≡ passed (ok r) → (last_of s r.passed).store ≡ s.store) → (d : Done) → run_done m ≡ ok d
        → (last_of s d.passed).store ≡ s.store
    unfolding run_done Outcomes.◌>>=◌
    run_store (refused n) same d e = subst (λ (d : Done). (last_of s d.passed).store ≡ s.store) (ok-is e) refl
    run_store (passed (fault x)) same d e = absurd (let z : ◌≡◌ {A = ℕ} 0 1 = cc in omega arith)
    run_store (passed (ok r)) same d e = subst (λ (d : Done). (last_of s d.passed).store ≡ s.store) (ok-is e) (same r refl)

    run-valid : (t : Lending) (d : Done) → machine_call c l.ranks (fed (HostCall.running t budget now)) s ≡ ok d → ValidIn (last_of s d.passed)
    unfolding machine_call
    run-valid t d e = subst (λ (σ : Store). All Valid σ.terms) (sym (run_store (fits t >> run_in c l.ranks budget now s) (store_same t) d e)) valid

  -- ── a page ────────────────────────────────────────────────────────────────────────────────

  module _ (g : ℕ) (page : List ℕ) where
    abbrev taking : PageTaken → Taking
    taking k = record { checked = c; taken = k }

    -- refusal 1 is tested on the lengths, refusal 10 does not come, and 12 to 14 are the machine's
    page-tests : page_tests lent kept.saved g page ≡ ((fits as_left >> take_in c g page s) >>= λ k. passed (taking k))
    unfolding page_tests
    page-tests =
        let rest : Calls.Sound → Result Taking = λ x.
        take_in x.checked g page x.state >>= λ k. passed (record { checked = x.checked; taken = k }) in
        bind-passed rest (entry_of lent kept.saved fit loads.ranks found)
        ∙ sym (ap (λ m. m >>= λ k. passed (taking k)) (fits-as-left (take_in c g page s)))

    -- what the host makes of it
    abbrev page_handed : PageResult → Handed
    page_handed r =
        record {
          answer = paged r.returned.answer;
          left = record { saved = r.returned.saved; term_table = r.term_table; quad_table = r.quad_table };
        }

    page-handed : (m : Result PageTaken) → page_handed (page_result lent kept.saved (m >>= λ k. passed (taking k))) ≡ handed_of c as_left s (page_done m)
    unfolding page_result page_done ◌>>=◌
    page-handed (refused n) = refl
    page-handed (passed k) = refl

    page-call : (t : Lending) (d : Done) → machine_call c l.ranks (fed (HostCall.paging t g page)) s ≡ ok d
        → engine_call l (HostCall.paging t g page) kept ≡ ok (handed_of c t s d)
    unfolding machine_call engine_call page_call
    page-call as_left d e =
        ap (λ m. ok (page_handed (page_result lent kept.saved m))) page-tests
        ∙ ap ok (page-handed (fits as_left >> take_in c g page s) ∙ ap (handed_of c as_left s) (ok-is e))
    page-call (others x saved wrong) d e =
        unfold page_result page_done in
        let one = rw (fits-others x saved wrong (take_in c g page s)) at e in
        rw (page-one x saved wrong g page) (ap (λ (d : Done). ok (handed_of c (others x saved wrong) s d)) (ok-is one))

    page-valid : (t : Lending) (d : Done) → machine_call c l.ranks (fed (HostCall.paging t g page)) s ≡ ok d → ValidIn (last_of s d.passed)
    unfolding machine_call page_done
    page-valid t d e = subst (λ (d : Done). ValidIn (last_of s d.passed)) (ok-is e) (go (fits t >> take_in c g page s) refl)
      where
        go : (m : Result PageTaken) → (fits t >> take_in c g page s) ≡ m → ValidIn (last_of s (page_done m).passed)
        go (refused n) e = valid
        go (passed k) e =
            page-keeps-valid c g page s k (require-after-inv WrongLength (tables_fit (lengths_lent t)) (take_in c g page s) e).1 valid

  -- ── any call ──────────────────────────────────────────────────────────────────────────────

  pub engine-call : (x : HostCall) (d : Done) → machine_call c l.ranks (fed x) s ≡ ok d → engine_call l x kept ≡ ok (handed_of c (lending x) s d)
  engine-call (HostCall.running t budget now) d e = run_call_lem budget now t d e
  engine-call (HostCall.paging t g page) d e = page-call g page t d e

  pub call-valid : (x : HostCall) (d : Done) → machine_call c l.ranks (fed x) s ≡ ok d → ValidIn (last_of s d.passed)
  call-valid (HostCall.running t budget now) d e = run-valid budget now t d e
  call-valid (HostCall.paging t g page) d e = page-valid g page t d e
