-- Demand 3, proved: a load's result is sound, every call keeps soundness, so refusal 10 never comes and each call does what the machine does.
use Rattle.definitions.specs.declared.Refusal.TheVariants.{WrongLength, BadRun, NoGraph, BadPage, NoRoom}
use Rattle.definitions.specs.declared.Refusal.{Refusal}
use Rattle.definitions.specs.Numbers.{refusal_number}
use Rattle.std.specs.Prelude.{Ok, Err}
use Prim.Native.Nat.{ℕ}
use native.Mathlib.Omega.{arith}
use mathlib.Core.Path.{◌≡◌, refl, sym, ap, subst⁻¹, ◌∙◌}
use mathlib.Core.List.{List, [], ◌∷◌, map}
use mathlib.Core.Bool.{◌&&◌}
use mathlib.Core.Option.{Option, none, some}
use lib.Dec.{leb}
use lib.ListN.{length, get_elem?}
use Rattle.definitions.specs.Limits.{budget_limit}
use Rattle.definitions.specs.Terms.{Triple, is_date_time}
use Rattle.definitions.specs.Typing.{type_at}
use Rattle.definitions.specs.Outcome.{Outcome, ok, ◌>>=◌}
use Rattle.definitions.specs.Machine.{State, Run, run, last_of, loaded, taken, with_page, in_limits}
use Rattle.definitions.specs.Saved.{saved_control}
use Rattle.definitions.specs.Result as Results
use Rattle.definitions.specs.Result.{Result, refused, passed, require, given}
use Rattle.definitions.specs.Calls.{Checked, check, reported, Lent, tables_fit, lengths_fit, load_tests, load_result, load, run_in, setting_of}
use Rattle.definitions.specs.Calls.{is_graph, page_in, PageTaken, page_taken, take_in}
use Rattle.definitions.specs.CallList.{Call, running, paging, ran, Done, run_done, page_done, machine_call, machine_calls}
use Rattle.laws.proofs.NoFault.{ok-is, fine-ok, holds_after, holds-ok}
use Rattle.laws.specs.Outcomes.{OrFault, holds}
use Rattle.laws.proofs.Tests.{is_false}
use Rattle.laws.proofs.Results.{require-refused}
use Rattle.laws.proofs.Refusing.{by-require}
use Rattle.laws.proofs.Check.{check-accepted}
use Rattle.laws.proofs.Tables.{term-table-length, quad-table-length}
use Rattle.laws.specs.Valid.{ValidIn}
use Rattle.laws.proofs.Valid.{loaded-valid, check-valid}
use Rattle.laws.proofs.Saved.{held-again, terms-few, quads-few}
use Rattle.laws.specs.Sound.{Accepted, Sound}
use Rattle.safety.proofs.RunSound.{last-sound}
use Rattle.theorems.proofs.Safety.{well_typed_lem, loaded-sound, CallSound, call-sound}
use Rattle.theorems.specs.Hosts.{Kept, Lending, as_left, others, HostCall, lending, fed, kept_of, kept_after_load, Handed, number_of, lent_kept, kept_after, engine_call, engine_calls}
use Rattle.theorems.specs.Demand3.{Keeps, Wrong, Agrees, CallByCall, Demand3}
use Rattle.theorems.proofs.EngineSound.{Loads, loads-of, handed_of, answer-of, engine-call, call-valid}

-- ── the proof: refusals ─────────────────────────────────────────────────────────────────────

-- of the machine's own refusals none is 10, and none moves
record Fair (d : Done) : Type 0 where
  never_ten : number_of d.answer ≡ 10 → ⊥
  still : (number_of d.answer ≡ 0 → ⊥) → d.passed ≡ []

fair-run : (n : Refusal) → (refusal_number n ≡ 10 → ⊥) → OrFault Fair (run_done (refused n))
unfolding run_done
fair-run n h = holds {a = record { answer = ran (Err n); passed = [] }} (record { never_ten = h; still = λ k. refl })

fair-ran : (o : Outcome Run) → OrFault Fair (run_done (passed o))
unfolding run_done
fair-ran o = holds_after o λ r. holds {a = record { answer = ran (Ok (record { steps = length r.passed; state = r.ending })); passed = r.passed }} (record {
  never_ten = λ e. omega (arith, e);
  still = λ h. absurd (h refl);
})

fair-page : (n : Refusal) → (refusal_number n ≡ 10 → ⊥) → Fair (page_done (refused n))
unfolding page_done
fair-page n h = record { never_ten = h; still = λ k. refl }

fair-paged : (k : PageTaken) → Fair (page_done (passed k))
unfolding page_done
fair-paged k = record { never_ten = λ e. omega (arith, e); still = λ h. absurd (h refl) }

by-given : {A B : Type 0} (P : Result B → Type 0) (n : Refusal) (o : Option A) (f : A → Result B) → P (refused n) → ((a : A) → P (f a))
    → P (Results.◌>>=◌ (given n o) f)
unfolding given Results.◌>>=◌
by-given P n none f h k = h
by-given P n (some a) f h k = k a

fair-call : (c : Checked) (ranks : List ℕ) (x : Call) (s : State) → OrFault Fair (machine_call c ranks x s)
unfolding machine_call run_in take_in
fair-call c ranks (running n budget now) s =
    let ask : Result (Outcome Run) → Type 0 = λ r. OrFault Fair (run_done r) in
    by-require ask WrongLength (tables_fit n) _ (fair-run WrongLength (λ e. omega (arith, e)))
    (by-require ask BadRun (leb budget budget_limit && is_date_time now) _ (fair-run BadRun (λ e. omega (arith, e)))
    (fair-ran (run (setting_of c ranks now) (type_at c.types) budget s)))
fair-call c ranks (paging n g page) s =
    let ask : Result PageTaken → Type 0 = λ r. Fair (page_done r) in
    let from14 : List Triple → Result PageTaken = λ triples.
    let k = taken c.schema g triples s.store in
    Results.◌>>◌ (require NoRoom (in_limits (with_page g k s.store))) (passed (page_taken g k s)) in
    holds (by-require ask WrongLength (tables_fit n) _ (fair-page WrongLength (λ e. omega (arith, e)))
    (by-require ask NoGraph (is_graph (get_elem? s.store.terms g)) _ (fair-page NoGraph (λ e. omega (arith, e)))
    (by-given ask BadPage (page_in page) from14 (fair-page BadPage (λ e. omega (arith, e))) λ triples.
    by-require ask NoRoom (in_limits (with_page g (taken c.schema g triples s.store) s.store)) _ (fair-page NoRoom (λ e. omega (arith, e)))
    (fair-paged (page_taken g (taken c.schema g triples s.store) s)))))

-- a table of another length gives 1
pub wrong-one : (c : Checked) (ranks : List ℕ) (x : HostCall) (s : State) (d : Done) → machine_call c ranks (fed x) s ≡ ok d → Wrong (lending x) → number_of d.answer ≡ 1
unfolding machine_call run_done page_done
wrong-one c ranks (HostCall.running (others l saved wrong) budget now) s d e w =
    let one = rw (require-refused WrongLength (run_in c ranks budget now s) (is_false (lengths_fit l) wrong)) at e in
    ap (λ (d : Done). number_of d.answer) (sym (ok-is one))
wrong-one c ranks (HostCall.paging (others l saved wrong) g page) s d e w =
    let one = rw (require-refused WrongLength (take_in c g page s) (is_false (lengths_fit l) wrong)) at e in
    ap (λ (d : Done). number_of d.answer) (sym (ok-is one))
wrong-one c ranks (HostCall.running as_left budget now) s d e w = absurd w
wrong-one c ranks (HostCall.paging as_left g page) s d e w = absurd w

-- ── the proof: the list ─────────────────────────────────────────────────────────────────────

-- one call and the rest
machine-more : (c : Checked) (ranks : List ℕ) (x : Call) (xs : List Call) (s : State) (d : Done) (ds : List Done) → machine_call c ranks x s ≡ ok d
    → machine_calls c ranks xs (last_of s d.passed) ≡ ok ds → machine_calls c ranks (x ∷ xs) s ≡ ok (d ∷ ds)
unfolding machine_calls ◌>>=◌
machine-more c ranks x xs s d ds e f = rw (e, f) refl

pub engine-more : (l : Lent) (x : HostCall) (xs : List HostCall) (k : Kept) (h : Handed) (hs : List Handed) → engine_call l x k ≡ ok h
    → engine_calls l xs (kept_after (lending x) k h) ≡ ok hs → engine_calls l (x ∷ xs) k ≡ ok (h ∷ hs)
unfolding engine_calls ◌>>=◌
engine-more l x xs k h hs e f = rw (e, f) refl

-- what holds of a list of calls from a state on
record FromHere (l : Lent) (c : Checked) (s : State) (calls : List HostCall) : Type 0 where
  done : List Done
  no_fault : machine_calls c l.ranks (map fed calls) s ≡ ok done
  handed : List Handed
  given : engine_calls l calls (kept_of c s) ≡ ok handed
  agree : CallByCall c calls (kept_of c s) s done handed

module _ (l : Lent) (c : Checked) (loads : Loads l c) where
  accepted : Accepted c
  accepted = check-accepted l.terms l.schema l.script c loads.checks

  -- what a sound state leaves in saved run and tables
  pub kept_again : (s : State) → Sound c s → ValidIn s → Keeps c (kept_of c s) s
  kept_again s sound valid =
      record {
        written = refl;
        holds = held-again c accepted s sound valid (reported c);
        lengths = (
          term-table-length s.store.terms valid (terms-few c accepted s sound),
          quad-table-length s.store.quads (quads-few c accepted s sound),
        );
      }

  -- the host keeps what the machine's state leaves, whatever it lent
  after_call : (t : Lending) (s : State) (d : Done) → (Wrong t → d.passed ≡ []) → kept_after t (kept_of c s) (handed_of c t s d) ≡ kept_of c (last_of s d.passed)
  after_call as_left s d h = refl
  after_call (others x saved wrong) s d h = ap (λ (p : List State). kept_of c (last_of s p)) (sym (h tt))

  -- a call that is lent something else leaves the machine where it was
  wrong-still : (x : HostCall) (s : State) (d : Done) → machine_call c l.ranks (fed x) s ≡ ok d → Wrong (lending x) → d.passed ≡ []
  wrong-still x s d e w =
      let n = wrong-one c l.ranks x s d e w in
      (holds-ok d e (fair-call c l.ranks (fed x) s)).still (λ z. omega (arith, n, z))

  pub call-keeps : (x : HostCall) (s : State) (d : Done) → machine_call c l.ranks (fed x) s ≡ ok d
      → kept_after (lending x) (kept_of c s) (handed_of c (lending x) s d) ≡ kept_of c (last_of s d.passed)
  call-keeps x s d e = after_call (lending x) s d (wrong-still x s d e)

  left-as-lent : (t : Lending) (s : State) (d : Done) → d.passed ≡ [] → (handed_of c t s d).left ≡ lent_kept t (kept_of c s)
  left-as-lent as_left s d e = ap (λ (p : List State). kept_of c (last_of s p)) e
  left-as-lent (others x saved wrong) s d e = refl

  agrees : (x : HostCall) (s : State) (d : Done) → machine_call c l.ranks (fed x) s ≡ ok d → CallSound c (fed x) d
      → Keeps c (kept_of c (last_of s d.passed)) (last_of s d.passed) → Agrees c x (kept_of c s) s d (handed_of c (lending x) s d)
  agrees x s d e h keeps =
      let fair = holds-ok d e (fair-call c l.ranks (fed x) s) in
      let number = ap number_of (answer-of c (lending x) s d) in
      record {
        answer = answer-of c (lending x) s d;
        never_ten = λ z. fair.never_ten (sym number ∙ z);
        one = λ w. number ∙ wrong-one c l.ranks x s d e w;
        typed = h.typed;
        keeps = subst⁻¹ (λ k. Keeps c k (last_of s d.passed)) (call-keeps x s d e) keeps;
        refused = λ n. let still = fair.still (λ z. n (number ∙ z)) in (still, left-as-lent (lending x) s d still);
      }

  from-here : (calls : List HostCall) (s : State) → Sound c s → ValidIn s → FromHere l c s calls
  unfolding machine_calls engine_calls
  from-here [] s sound valid = record { done = []; no_fault = refl; handed = []; given = refl; agree = tt }
  from-here (x ∷ xs) s sound valid =
      let m = fine-ok (call-sound c accepted l.ranks (fed x) s sound) in
      let d = m.0 in
      let after = last_of s d.passed in
      let sound' = last-sound c s d.passed sound m.2.passed in
      let valid' = call-valid l c loads s sound valid x d m.1 in
      let rest = from-here xs after sound' valid' in
      let h = handed_of c (lending x) s d in
      let one = agrees x s d m.1 m.2 (kept_again after sound' valid') in
      let kept : kept_after (lending x) (kept_of c s) h ≡ kept_of c after = call-keeps x s d m.1 in
      record {
        done = d ∷ rest.done;
        no_fault = machine-more c l.ranks (fed x) (map fed xs) s d rest.done m.1 rest.no_fault;
        handed = h ∷ rest.handed;
        given = engine-more l x xs (kept_of c s) h rest.handed (engine-call l c loads s sound valid x d m.1)
            (ap (engine_calls l xs) kept ∙ rest.given);
        agree = (one, subst⁻¹ (λ k. CallByCall c xs k after rest.done rest.handed) kept rest.agree);
      }

-- a load that is accepted, and what it leaves
accepted-load : (l : Lent) (r : Result Checked) → (load_result l r).returned.answer ≡ Ok tt → (c : Checked) × (r ≡ passed c)
unfolding load_result
accepted-load l (refused n) e = absurd (let z : ◌≡◌ {A = ℕ} 0 1 = cc in omega arith)
accepted-load l (passed c) e = (c, refl)

pub loads-with : {l : Lent} {c : Checked} → (load l).returned.answer ≡ Ok tt → check l.terms l.schema l.script ≡ passed c → Loads l c
unfolding load
loads-with {l} e checks =
    let k = loads-of (accepted-load l (load_tests l) e).1 in
    record { lengths = k.lengths; ranks = k.ranks; checks = checks }

load-keeps : (l : Lent) (c : Checked) → load_tests l ≡ passed c → kept_after_load l ≡ kept_of c (loaded c.terms c.root)
unfolding load load_result
load-keeps l c e = rw e refl

load-types : (l : Lent) (c : Checked) → load_tests l ≡ passed c → (load l).returned.saved.control.types ≡ reported c
unfolding load load_result saved_control
load-types l c e = rw e refl

-- ── the theorem ─────────────────────────────────────────────────────────────────────────────

pub demand-3 : (l : Lent) → (load l).returned.answer ≡ Ok tt → (calls : List HostCall) → Demand3 l calls
unfolding load load_tests
demand-3 l e calls =
    let r = accepted-load l (load_tests l) e in
    let c = r.0 in
    let loads : Loads l c = loads-of r.1 in
    let accepted = check-accepted l.terms l.schema l.script c loads.checks in
    let s = loaded c.terms c.root in
    let sound = loaded-sound c accepted in
    let valid = loaded-valid c (check-valid l.terms l.schema l.script c loads.checks) in
    let kept = load-keeps l c r.1 in
    let all = from-here l c loads calls s sound valid in
    record {
      checked = c;
      loads = loads.checks;
      types = load-types l c r.1;
      start = subst⁻¹ (λ k. Keeps c k s) kept (kept_again l c loads s sound valid);
      start_typed = well_typed_lem c accepted s sound;
      done = all.done;
      no_fault = all.no_fault;
      handed = all.handed;
      given = ap (engine_calls l calls) kept ∙ all.given;
      agree = subst⁻¹ (λ k. CallByCall c calls k s all.done all.handed) kept all.agree;
    }
