-- Ask 12, proved: each call leaves on the stack what its steps have not taken off it, so the steps of all calls add up.
use Rattle.definitions.specs.declared.Refusal.{Refusal}
use Rattle.definitions.specs.Numbers.{refusal_number}
use Rattle.definitions.specs.declared.Refusal.TheVariants.{WrongLength, BadRun}
use Rattle.std.specs.Prelude.{Ok, Err}
use Prim.Native.Nat.{ℕ, ◌+◌, ◌<◌, ◌≤◌, ◌^◌}
use native.Mathlib.Omega.{arith}
use mathlib.Core.Path.{◌≡◌, refl, sym, ap, subst, subst⁻¹, ◌∙◌}
use mathlib.Core.Logic.{⊎_elim}
use mathlib.Core.List.{List, [], ◌∷◌, map}
use mathlib.Core.Bool.{cond, not, ◌&&◌}
use mathlib.Core.Option.{some}
use lib.Dec.{T, eqb, leb, eqb→eq}
use lib.ListN.{length, take, replicate}
use borrow.Author.Tests.{ne_eqb}
use Rattle.definitions.specs.Limits.{script_limit, budget_limit, saved_width, run_report_width}
use Rattle.definitions.specs.Lists.{some?}
use Rattle.definitions.specs.Bytes.{byte, little, little_bytes}
use Rattle.definitions.specs.Terms.{is_date_time}
use Rattle.definitions.specs.Types.{Ty}
use Rattle.definitions.specs.Tree.{Script}
use Rattle.definitions.specs.Total.{script_records, has_each, total_of}
use Rattle.definitions.specs.Typing.{written_types, type_at, verdict}
use Rattle.definitions.specs.Outcome.{Outcome, ok}
use Rattle.definitions.specs.Machine.{State, Run, run, last_of, loaded}
use Rattle.definitions.specs.Saved.{held}
use Rattle.definitions.specs.Result.{Result, refused, passed}
use Rattle.definitions.specs.Calls.{Parsed, read_tests, Checked, constants_of, types_of, type_tests, check, tables_fit, setting_of, Lent, load, run_in, PageTaken, total_result, total}
use Rattle.definitions.specs.CallList.{Answer, ran, paged, Done, run_done, page_done, machine_call}
use Rattle.definitions.specs.Numbers.{state_number}
use Rattle.definitions.specs.Exports.{run_report, saved_from}
use Rattle.laws.specs.Outcomes.{OrFault, holds}
use Rattle.laws.proofs.NoFault.{ok-is, fine-ok, holds_after, holds-ok}
use Rattle.laws.proofs.Tests.{is_false, or_cases}
use Rattle.laws.proofs.Results.{passed_is, bind_inv}
use Rattle.laws.proofs.Refusing.{by-require}
use Rattle.laws.proofs.Bytes.{little-of}
use Rattle.laws.proofs.ReadBounds.{records-fit}
use Rattle.laws.proofs.Check.{check-accepted}
use Rattle.laws.specs.Valid.{ValidIn}
use Rattle.laws.proofs.Valid.{loaded-valid, check-valid}
use Rattle.laws.specs.Sound.{Accepted, Sound}
use Rattle.safety.proofs.RunSound.{last-sound}
use Rattle.theorems.proofs.StepsLeft.{NoEach, AnswerEnds, steps_in, call-left}
use Rattle.theorems.proofs.Safety.{loaded-sound, call-sound}
use Rattle.theorems.proofs.EngineSound.{Loads, handed_of, answer-of, engine-call, call-valid}
use Rattle.theorems.proofs.Demand3.{loads-with, wrong-one, engine-more, kept_again, call-keeps, demand-3}
use Rattle.theorems.proofs.SavedFits.{sound-again}
use Rattle.theorems.proofs.OnBytes.{same_kept, on-bytes}
use Rattle.theorems.specs.Hosts as Hosts
use Rattle.theorems.specs.Hosts.{Kept, HostCall, lending, fed, kept_of, kept_after_load, Handed, number_of, kept_after, kept_after_all, engine_calls}
use Rattle.theorems.specs.Demand3.{Wrong}
use Rattle.theorems.specs.OnBytes.{KeptBytes, bytes_of, Lending, as_left, others, ExportCall, running, paging}
use Rattle.theorems.specs.OnBytes.{after_all, no_tables, lending_of, call_of, handed_bytes, exported_all}
use Rattle.theorems.specs.ExactSteps.{RunTold, with_run, runs_told, runs_reported, steps_of, has_ended, stack_records, EndsExactly, Exact}
use Rattle.theorems.specs.ExactSteps.{ExactAnswers, ExactReports, OnceLoad, ExactSteps}

-- ── runs, one after the other ───────────────────────────────────────────────────────────────

with-steps : (a : Answer) (later : List RunTold) → steps_of (with_run a later) ≡ steps_in a + steps_of later
unfolding with_run steps_of
with-steps (ran (Ok e)) later = refl
with-steps (ran (Err n)) later = omega arith
with-steps (paged a) later = omega arith

-- w records are left after the answer
with-ends : (n before w : ℕ) (a : Answer) (later : List RunTold) → before + steps_in a + w ≡ n → AnswerEnds w a
    → ((m : ℕ) → m ≡ before + steps_in a → EndsExactly n m later) → EndsExactly n before (with_run a later)
unfolding with_run
with-ends n before w (ran (Ok r)) later e h k =
    ((λ z. omega (arith, e, h.0 z), λ z. h.1 (omega (arith, e, z))), k (before + r.steps) refl)
with-ends n before w (ran (Err m)) later e h k = k before (omega arith)
with-ends n before w (paged a) later e h k = k before (omega arith)

-- where a run has ended, no step follows
all-taken : (n before : ℕ) (runs : List RunTold) → before + steps_of runs ≤ n → EndsExactly n before runs → T (has_ended runs) → before + steps_of runs ≡ n
unfolding steps_of has_ended
all-taken n before [] l e h = absurd h
all-taken n before (r ∷ rs) l e h =
    ⊎_elim (λ t. let z = e.0.0 (eqb→eq r.state 0 t) in omega (arith, l, z))
    (λ t. let z = all-taken n (before + r.steps) rs (omega (arith, l)) e.1 t in omega (arith, z))
    (or_cases (eqb r.state 0) (some? (λ r. eqb r.state 0) rs) h)

exact-of : (n : ℕ) (runs : List RunTold) (s : State) → steps_of runs + stack_records s.control.stack ≡ n → EndsExactly n 0 runs
    → Exact n runs s.control.stack
exact-of n runs s e h =
    let l : steps_of runs ≤ n = omega (arith, e) in
    record { counted = e; at_most = l; ends = h; all = λ t. let z = all-taken n 0 runs (omega (arith, l)) h t in omega (arith, z) }

-- ── what kind of answer a call gets ─────────────────────────────────────────────────────────

abbrev RunKind : Answer → Type 0
RunKind (ran (Ok e)) = Unit {0}
RunKind (ran (Err n)) = refusal_number n ≡ 0 → ⊥
RunKind (paged a) = ⊥

abbrev PageKind : Answer → Type 0
PageKind (ran a) = ⊥
PageKind (paged a) = Unit {0}

abbrev AnswerTo : HostCall → Answer → Type 0
AnswerTo (HostCall.running t budget now) a = RunKind a × (Wrong t → number_of a ≡ 1)
AnswerTo (HostCall.paging t g page) a = PageKind a

abbrev AnswersTo : List HostCall → List Handed → Type 0
AnswersTo [] [] = Unit {0}
AnswersTo [] (h ∷ hs) = ⊥
AnswersTo (x ∷ xs) [] = ⊥
AnswersTo (x ∷ xs) (h ∷ hs) = AnswerTo x h.answer × AnswersTo xs hs

abbrev OfRun : Done → Type 0
OfRun d = RunKind d.answer

refused-kind : (n : Refusal) → (refusal_number n ≡ 0 → ⊥) → OrFault OfRun (run_done (refused n))
unfolding run_done
refused-kind n h = holds {a = record { answer = ran (Err n); passed = [] }} h

ran-kind : (o : Outcome Run) → OrFault OfRun (run_done (passed o))
unfolding run_done
ran-kind o = holds_after o λ r. holds {a = record { answer = ran (Ok (record { steps = length r.passed; state = r.ending })); passed = r.passed }} tt

page-kind : (r : Result PageTaken) → PageKind (page_done r).answer
unfolding page_done
page-kind (refused n) = tt
page-kind (passed k) = tt

answer-to : (c : Checked) (ranks : List ℕ) (x : HostCall) (s : State) (d : Done) → machine_call c ranks (fed x) s ≡ ok d → AnswerTo x d.answer
unfolding machine_call run_in
answer-to c ranks (HostCall.running t budget now) s d e =
    let ask : Result (Outcome Run) → Type 0 = λ r. OrFault OfRun (run_done r) in
    let kind = by-require ask WrongLength (tables_fit (Hosts.lengths_lent t)) _ (refused-kind WrongLength (λ z. omega (arith, z)))
    (by-require ask BadRun (leb budget budget_limit && is_date_time now) _ (refused-kind BadRun (λ z. omega (arith, z)))
    (ran-kind (run (setting_of c ranks now) (type_at c.types) budget s))) in
    (holds-ok d e kind, λ w. wrong-one c ranks (HostCall.running t budget now) s d e w)
answer-to c ranks (HostCall.paging t g page) s d e = subst (λ (d : Done). PageKind d.answer) (ok-is e) (page-kind _)

-- ── the list ────────────────────────────────────────────────────────────────────────────────

-- from a state on
record FromHere (l : Lent) (c : Checked) (s : State) (calls : List HostCall) : Type 0 where
  handed : List Handed
  given : engine_calls l calls (kept_of c s) ≡ ok handed
  kinds : AnswersTo calls handed
  left : State
  sound : Sound c left
  valid : ValidIn left
  kept : kept_after_all calls (kept_of c s) handed ≡ kept_of c left
  counted : steps_of (runs_told handed) + stack_records left.control.stack ≡ stack_records s.control.stack
  ends : (n before : ℕ) → before + stack_records s.control.stack ≡ n → EndsExactly n before (runs_told handed)

module _ (l : Lent) (c : Checked) (loads : Loads l c) where
  accepted : Accepted c
  accepted = check-accepted l.terms l.schema l.script c loads.checks

  from-here : (calls : List HostCall) (s : State) → Sound c s → ValidIn s → NoEach s.control.stack → FromHere l c s calls
  unfolding engine_calls kept_after_all runs_told steps_of
  from-here [] s sound valid none =
      record { handed = []; given = refl; kinds = tt; left = s; sound = sound; valid = valid; kept = refl; counted = omega arith; ends = λ n before e. tt }
  from-here (x ∷ xs) s sound valid none =
      let m = fine-ok (call-sound c accepted l.ranks (fed x) s sound) in
      let d = m.0 in
      let after = last_of s d.passed in
      let one = holds-ok d m.1 (call-left c l.ranks (fed x) s none) in
      let rest = from-here xs after (last-sound c s d.passed sound m.2.passed) (call-valid l c loads s sound valid x d m.1) one.left.none_each in
      let h = handed_of c (lending x) s d in
      let a = answer-of c (lending x) s d in
      let kept = call-keeps l c loads x s d m.1 in
      let later = runs_told rest.handed in
      record {
        handed = h ∷ rest.handed;
        given = engine-more l x xs (kept_of c s) h rest.handed (engine-call l c loads s sound valid x d m.1) (ap (engine_calls l xs) kept ∙ rest.given);
        kinds = (subst⁻¹ (AnswerTo x) a (answer-to c l.ranks x s d m.1), rest.kinds);
        left = rest.left;
        sound = rest.sound;
        valid = rest.valid;
        kept = ap (λ (k : Kept). kept_after_all xs k rest.handed) kept ∙ rest.kept;
        counted =
            let e : steps_of (with_run h.answer later) ≡ steps_in d.answer + steps_of later = ap (λ (a : Answer). steps_of (with_run a later)) a ∙ with-steps d.answer later in
            omega (arith, e, one.left.counted, rest.counted);
        ends = λ n before e.
            subst⁻¹ (λ (a : Answer). EndsExactly n before (with_run a later)) a
            (with-ends n before (stack_records after.control.stack) d.answer later (omega (arith, e, one.left.counted)) one.ended
            (λ k z. rest.ends n k (omega (arith, e, z, one.left.counted))));
      }

-- ── on bytes ────────────────────────────────────────────────────────────────────────────────

-- what a run's report tells is what its answer tells
run-reported : (t : Lending run_report_width) (a : Answer) (k : Kept) (later : List RunTold) → RunKind a → (Wrong (lending_of t) → number_of a ≡ 1) → steps_in a < 256 ^ 4
    → let e = handed_bytes t (record { answer = a; left = k }) in
    cond (eqb e.number 0) (record { steps = little (take 4 e.report); state = byte e.report 4 } ∷ later) later ≡ with_run a later
unfolding with_run run_report little_bytes no_tables
run-reported (as_left report w) (ran (Ok e)) k later h wrong b =
    ap (λ (n : ℕ). record { steps = n; state = state_number e.state } ∷ later) (little-of 4 e.steps b)
run-reported (as_left report w) (ran (Err n)) k later h wrong b = rw (ne_eqb (refusal_number n) 0 h) refl
run-reported (as_left report w) (paged a) k later h wrong b = absurd h
run-reported (others l saved report w) (ran (Ok e)) k later h wrong b = absurd (let z = wrong tt in omega (arith, z))
run-reported (others l saved report w) (ran (Err n)) k later h wrong b = refl
run-reported (others l saved report w) (paged a) k later h wrong b = absurd h

page-told : (a : Answer) (later : List RunTold) → PageKind a → later ≡ with_run a later
unfolding with_run
page-told (ran a) later h = absurd h
page-told (paged a) later h = refl

reported-same : (calls : List ExportCall) (hs : List Handed) → AnswersTo (map call_of calls) hs → steps_of (runs_told hs) < 256 ^ 4
    → runs_reported calls (exported_all calls hs) ≡ runs_told hs
unfolding runs_reported runs_told
reported-same [] [] ks b = refl
reported-same [] (h ∷ hs) ks b = absurd ks
reported-same (x ∷ xs) [] ks b = absurd ks
reported-same (running t budget now ∷ xs) (h ∷ hs) ks b =
    let later = runs_told hs in
    let s = with-steps h.answer later in
    rw (reported-same xs hs ks.1 (omega (arith, b, s))) (run-reported t h.answer h.left later ks.0.0 ks.0.1 (omega (arith, b, s)))
reported-same (paging t g page ∷ xs) (h ∷ hs) ks b =
    let s = with-steps h.answer (runs_told hs) in
    reported-same xs hs ks.1 (omega (arith, b, s)) ∙ page-told h.answer (runs_told hs) ks.0

kept_same : (calls : List ExportCall) (k : Kept) (hs : List Handed) → after_all calls (bytes_of k) (exported_all calls hs) ≡ bytes_of (kept_after_all (map call_of calls) k hs)
unfolding after_all kept_after_all
kept_same [] k hs = refl
kept_same (x ∷ xs) k [] = refl
kept_same (x ∷ xs) k (h ∷ hs) =
    ap (λ (b : KeptBytes). after_all xs b (exported_all xs hs)) (same_kept x k h) ∙ kept_same xs (kept_after (lending (call_of x)) k h) hs

-- ── the theorem ─────────────────────────────────────────────────────────────────────────────

-- the script that is read is the script that is checked
same-root : (terms schema script : List ℕ) (x : Parsed) (c : Checked) → read_tests terms schema script ≡ passed x → check terms schema script ≡ passed c
    → x.root ≡ c.root
unfolding check type_tests
same-root terms schema script x c e f =
    let i = bind_inv (read_tests terms schema script) type_tests f in
    let y = i.0 in
    let v = verdict (constants_of y.schema y.terms) (written_types y.root) y.root in
    let made : List Ty → Checked = λ Γ. record { schema = y.schema; terms = y.terms; root = y.root; types = Γ } in
    let j = bind_inv (types_of v) (λ Γ. passed (made Γ)) i.2 in
    ap (λ (p : Parsed). p.root) (passed_is (sym e ∙ i.1)) ∙ ap (λ (c : Checked). c.root) (passed_is {a = made j.0} j.2)

module _ (l : Lent) (o : OnceLoad l) where
  abbrev root : Script
  root = o.read.root

  told : total l.terms l.schema l.script ≡ Ok (script_records root)
  unfolding total total_result total_of
  told = rw (o.reads, is_false (has_each root) o.no_each) refl

-- of the script that is checked
module _ (l : Lent) (e : (load l).returned.answer ≡ Ok tt) (c : Checked) (loads : Loads l c)
    (start : kept_after_load l ≡ kept_of c (loaded c.terms c.root)) (once : T (not (has_each c.root))) where
  all-calls : (calls : List HostCall) → FromHere l c (loaded c.terms c.root) calls
  unfolding loaded
  all-calls calls =
      from-here l c loads calls (loaded c.terms c.root) (loaded-sound c (accepted l c loads))
      (loaded-valid c (check-valid l.terms l.schema l.script c loads.checks)) (once, tt)

  left-exact : (calls : List HostCall) → let h = all-calls calls in Exact (script_records c.root) (runs_told h.handed) h.left.control.stack
  unfolding loaded stack_records
  left-exact calls =
      let h = all-calls calls in
      let n = h.counted in
      exact-of (script_records c.root) (runs_told h.handed) h.left (omega (arith, n)) (h.ends (script_records c.root) 0 (omega arith))

  left-held : (calls : List HostCall) → let h = all-calls calls in let k = kept_after_all calls (kept_after_load l) h.handed in
      (k ≡ kept_of c h.left) × (held c.root k.term_table k.quad_table k.saved ≡ some h.left)
  left-held calls =
      let h = all-calls calls in
      let same = ap (λ (k : Kept). kept_after_all calls k h.handed) start ∙ h.kept in
      (same, subst⁻¹ (λ (k : Kept). held c.root k.term_table k.quad_table k.saved ≡ some h.left) same (kept_again l c loads h.left h.sound h.valid).holds)

  exact-answers : (calls : List HostCall) → ExactAnswers l c.root calls
  exact-answers calls =
      let h = all-calls calls in
      record { handed = h.handed; given = ap (engine_calls l calls) start ∙ h.given; left = h.left; holds = (left-held calls).1; exact = left-exact calls }

  -- few enough for four bytes
  few : (calls : List HostCall) → steps_of (runs_told (all-calls calls).handed) < 256 ^ 4
  few calls = omega (arith, (left-exact calls).at_most, records-fit 0 script_limit c.root (accepted l c loads).placed)

  exact-reports : (calls : List ExportCall) → ExactReports l c.root calls
  exact-reports calls =
      let d = on-bytes l e (replicate saved_width 0) refl calls in
      let xs = map call_of calls in
      let h = all-calls xs in
      let same : d.holds.handed ≡ h.handed = ok-is (sym d.holds.given ∙ (ap (engine_calls l xs) start ∙ h.given)) in
      let kept = kept_same calls (kept_after_load l) h.handed ∙ ap bytes_of (left-held xs).0 in
      let k = kept_of c h.left in
      record {
        exported = exported_all calls h.handed;
        given = d.agree ∙ ap (λ (hs : List Handed). ok (exported_all calls hs)) same;
        saved = k.saved;
        reads = ap (λ (b : KeptBytes). saved_from b.saved) kept ∙ sound-again l.terms l.schema l.script c loads.checks h.left h.sound;
        left = h.left;
        holds = ap (λ (b : KeptBytes). held c.root b.term_table b.quad_table k.saved) kept ∙ (kept_again l c loads h.left h.sound h.valid).holds;
        exact = subst⁻¹ (λ (runs : List RunTold). Exact (script_records c.root) runs h.left.control.stack) (reported-same calls h.handed h.kinds (few xs)) (left-exact xs);
      }

pub exact-steps : (l : Lent) (o : OnceLoad l) → ExactSteps l o.read.root
exact-steps l o =
    let d = demand-3 l o.accepted [] in
    let c = d.checked in
    let same = same-root l.terms l.schema l.script o.read c o.reads d.loads in
    let once = subst (λ (root : Script). T (not (has_each root))) same o.no_each in
    let answers : (calls : List HostCall) → ExactAnswers l o.read.root calls = λ calls.
    subst⁻¹ (λ (root : Script). ExactAnswers l root calls) same (exact-answers l o.accepted c (loads-with o.accepted d.loads) d.start.written once calls) in
    let reports : (calls : List ExportCall) → ExactReports l o.read.root calls = λ calls.
    subst⁻¹ (λ (root : Script). ExactReports l root calls) same (exact-reports l o.accepted c (loads-with o.accepted d.loads) d.start.written once calls) in
    record {
      told = told l o;
      answers = answers;
      reports = reports;
      same_answers = λ xs ys h k. (answers xs).exact.all h ∙ sym ((answers ys).exact.all k);
      same_reports = λ xs ys h k. (reports xs).exact.all h ∙ sym ((reports ys).exact.all k);
    }
