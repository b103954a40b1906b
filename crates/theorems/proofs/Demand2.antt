-- Demand 2, proved.
use Rattle.definitions.specs.declared.RunEnd.{RunEnd}
use Rattle.definitions.specs.Numbers.{refusal_number}
use Rattle.definitions.specs.declared.Refusal.{Refusal}
use Rattle.definitions.specs.declared.Refusal.TheVariants.{WrongLength, BadTerm, TermTwice, BadEntry, PropertyTwice, BadScript, OutOfScope, NoTyping, NoGreatest, BadRanks}
use Rattle.std.specs.Prelude.{Ok, Err}
use Rattle.definitions.specs.Result.{OrRefusal}
use Prim.Native.Nat.{ℕ}
use native.Mathlib.Omega.{arith}
use mathlib.Core.Path.{◌≡◌, refl, sym, ap, subst, ◌∙◌}
use mathlib.Core.Logic.{◌⊎◌, inl, inr}
use mathlib.Core.List.{List}
use mathlib.Core.Bool.{Bool, true, false}
use mathlib.Core.Option.{Option, none, some}
use lib.Dec.{T}
use lib.ListN.{length}
use lib.IntN.{ℤ}
use Rattle.definitions.specs.Lists.{distinct}
use Rattle.definitions.specs.Types.{Ty}
use Rattle.definitions.specs.Terms.{same_term, same_property, read_terms, read_schema}
use Rattle.definitions.specs.Reading.{parsed}
use Rattle.definitions.specs.Scope.{in_scope}
use Rattle.definitions.specs.Typing.{type_at, Verdict, no_typing, no_greatest, greatest, verdict}
use Rattle.definitions.specs.Outcome.{ok}
use Rattle.definitions.specs.Machine.{Run, last_of, with_properties}
use Rattle.definitions.specs.Saved.{saved_control}
use Rattle.definitions.specs.Result.{Result, refused, passed, ◌>>=◌, ◌>>◌, require, given}
use Rattle.definitions.specs.Alphabet.{is_alphabet}
use Rattle.definitions.specs.Calls.{record_tests, script_tests, read_tests, type_tests, Checked, types_of, sizes_fit, check, reported_types, reported, setting_of}
use Rattle.definitions.specs.Calls.{Lent, lengths_fit, load_tests, load_result, load}
use Rattle.definitions.specs.Calls.{Running, run_tests, ran_of, run_result, run_call, Taking, page_tests, page_result, page_call}
use Rattle.definitions.specs.Numbers.{answer_number}
use Rattle.definitions.specs.declared.SavedRun.{SavedRun}
use Rattle.definitions.specs.declared.RunState.{RunState}
use Rattle.definitions.specs.declared.Ran.{Ran}
use Rattle.laws.proofs.NoFault.{ok-is, fine-at}
use Rattle.laws.proofs.Tests.{is_true}
use Rattle.laws.proofs.Results.{by-bind, by_after}
use Rattle.laws.proofs.PageCheck.{page-passed}
use Rattle.laws.proofs.Valid.{page-keeps-valid}
use Rattle.laws.proofs.RunStore.{run-keeps, last-all}
use Rattle.laws.proofs.Saved.{held-again}
use Rattle.laws.proofs.SoundIn.{is-accepted}
use Rattle.theorems.proofs.Verdict.{verdict-claim}
use Rattle.safety.proofs.RunSound.{run_sound, last-sound}
use Rattle.safety.proofs.RunSteps.{run-takes}
use Rattle.safety.proofs.PageSound.{page-sound}
use Rattle.theorems.specs.PageLeaves.{PageLeaves}
use Rattle.theorems.proofs.PageTaken.{page-leaves}
use Rattle.theorems.proofs.CallsPassed.{RunPassed, run-passed, run-fine, run-gives, taking-passed}
use Rattle.theorems.proofs.StillHeld.{valid-held, still-held}
use Rattle.theorems.specs.Demand2.{BeforeEight, PastSeven, constants, written, LoadDecides, RunTakes, PageTakes, Demand2}

-- ── the proof: load ─────────────────────────────────────────────────────────────────────────

-- refused before 8 is asked, or past that
data Reaches {A : Type 0} (P : Type 0) : Result A → Type 0 where
  low : {r : Refusal} → BeforeEight (refusal_number r) → Reaches P (refused r)
  past : {m : Result A} → P → Reaches P m

module _ {A : Type 0} {P : Type 0} (r : Refusal) (early : BeforeEight (refusal_number r)) where
  require-reaches : (t : Bool) {m : Result A} → (T t → Reaches P m) → Reaches P (require r t >> m)
  unfolding require ◌>>◌
  require-reaches true k = k tt
  require-reaches false k = low early

  given-reaches : {B : Type 0} (o : Option B) {f : B → Result A} → ((b : B) → o ≡ some b → Reaches P (f b)) → Reaches P (given r o >>= f)
  unfolding given ◌>>=◌
  given-reaches none k = low early
  given-reaches (some b) k = k b refl

module _ {A B C : Type 0} {P : Type 0} where
  regroup : (m : Result A) (f : A → Result B) (k : B → Result C) → Reaches P (m >>= λ a. f a >>= k) → Reaches P ((m >>= f) >>= k)
  regroup m f k h = by-bind (λ (x : Result C). Reaches P x) m f k h

  together : (m : Result A) (n : Result B) (k : B → Result C) → Reaches P (m >> (n >>= k)) → Reaches P ((m >> n) >>= k)
  together m n k h = by_after (λ (x : Result C). Reaches P x) m n k h

load-reaches : (l : Lent) → Reaches (PastSeven l) (load_tests l)
unfolding load_tests check read_tests record_tests script_tests ◌>>=◌
load-reaches l =
    require-reaches WrongLength (inl (omega arith, omega arith)) (lengths_fit l) λ lengths.
    require-reaches BadRanks (inr refl) (is_alphabet l.ranks) λ ranks.
    regroup (record_tests l.terms l.schema) _ _
    (regroup (given BadTerm (read_terms l.terms)) _ _
    (given-reaches BadTerm (inl (omega arith, omega arith)) (read_terms l.terms) λ listed reads.
    together (require TermTwice (distinct same_term listed)) _ _
    (require-reaches TermTwice (inl (omega arith, omega arith)) (distinct same_term listed) λ apart.
    regroup (given BadEntry (read_schema l.schema)) _ _
    (given-reaches BadEntry (inl (omega arith, omega arith)) (read_schema l.schema) λ S entries.
    together (require PropertyTwice (distinct same_property S)) _ _
    (require-reaches PropertyTwice (inl (omega arith, omega arith)) (distinct same_property S) λ properties.
    regroup (script_tests (with_properties S listed) S l.script) _ _
    (together (require BadScript (sizes_fit (with_properties S listed) S l.script)) _ _
    (require-reaches BadScript (inl (omega arith, omega arith)) (sizes_fit (with_properties S listed) S l.script) λ sizes.
    regroup (given BadScript (parsed (length (with_properties S listed)) l.script)) _ _
    (given-reaches BadScript (inl (omega arith, omega arith)) (parsed (length (with_properties S listed)) l.script) λ root parses.
    together (require OutOfScope (in_scope root)) _ _
    (require-reaches OutOfScope (inl (omega arith, omega arith)) (in_scope root) λ scope.
    past (record {
      lengths = lengths;
      ranks = ranks;
      listed = listed;
      reads = reads;
      apart = apart;
      schema = S;
      entries = entries;
      properties = properties;
      sizes = sizes;
      root = root;
      parses = parses;
      scope = scope;
    }))))))))))

number-reaches : (l : Lent) (r : Result Checked) → Reaches (PastSeven l) r
    → BeforeEight (answer_number (load_result l r).returned.answer) ⊎ PastSeven l
unfolding load_result
number-reaches l r (low early) = inl early
number-reaches l r (past p) = inr p

-- the answer that a verdict makes
abbrev answer_of : Verdict → OrRefusal Unit
answer_of no_typing = Err NoTyping
answer_of no_greatest = Err NoGreatest
answer_of (greatest Γ) = Ok tt

-- no two make the same
is-accepted-answer : (v : Verdict) → answer_of v ≡ Ok tt → (Γ : List Ty) × (v ≡ greatest Γ)
is-accepted-answer no_typing e = absurd (let z : ◌≡◌ {A = ℕ} 8 0 = ap answer_number e in omega arith)
is-accepted-answer no_greatest e = absurd (let z : ◌≡◌ {A = ℕ} 9 0 = ap answer_number e in omega arith)
is-accepted-answer (greatest Γ) e = (Γ, refl)

is-8 : (v : Verdict) → answer_of v ≡ Err NoTyping → v ≡ no_typing
is-8 no_typing e = refl
is-8 no_greatest e = absurd (let z : ◌≡◌ {A = ℕ} 9 8 = ap answer_number e in omega arith)
is-8 (greatest Γ) e = absurd (let z : ◌≡◌ {A = ℕ} 0 8 = ap answer_number e in omega arith)

is-9 : (v : Verdict) → answer_of v ≡ Err NoGreatest → v ≡ no_greatest
is-9 no_typing e = absurd (let z : ◌≡◌ {A = ℕ} 8 9 = ap answer_number e in omega arith)
is-9 no_greatest e = refl
is-9 (greatest Γ) e = absurd (let z : ◌≡◌ {A = ℕ} 0 9 = ap answer_number e in omega arith)

module _ (l : Lent) (p : PastSeven l) where
  -- what loading finds
  found : List Ty → Checked
  found Γ = record { schema = p.schema; terms = with_properties p.schema p.listed; root = p.root; types = Γ }

  decided : Verdict
  decided = verdict (constants p) (written p) p.root

  tests : load_tests l ≡ (types_of decided >>= λ Γ. passed (found Γ))
  unfolding load_tests check read_tests record_tests script_tests type_tests require given ◌>>◌ ◌>>=◌ decided found
  tests =
      let sizes = is_true (sizes_fit (with_properties p.schema p.listed) p.schema l.script) p.sizes in
      rw (is_true (lengths_fit l) p.lengths, is_true (is_alphabet l.ranks) p.ranks, p.reads, is_true (distinct same_term p.listed) p.apart, p.entries)
      (rw (is_true (distinct same_property p.schema) p.properties) (rw (sizes, p.parses, is_true (in_scope p.root) p.scope) refl))

  answer-of : (v : Verdict) → (load_result l (types_of v >>= λ Γ. passed (found Γ))).returned.answer ≡ answer_of v
  unfolding load_result types_of ◌>>=◌
  answer-of no_typing = refl
  answer-of no_greatest = refl
  answer-of (greatest Γ) = refl

  answer : (load l).returned.answer ≡ answer_of decided
  unfolding load
  answer = ap (λ r. (load_result l r).returned.answer) tests ∙ answer-of decided

  types-of : (Γ : List Ty) → decided ≡ greatest Γ → (load l).returned.saved.control.types ≡ reported_types (written p) Γ
  unfolding load load_result types_of ◌>>=◌ saved_control found
  types-of Γ e = rw (tests, e) refl

  load-decides : LoadDecides p
  unfolding decided
  load-decides =
      let v = verdict-claim (constants p) (written p) p.root in
      record {
        accepted = (
          λ a. let g = is-accepted-answer decided (sym answer ∙ a) in (g.0, (v.accepted g.0).0 g.1),
          λ g. answer ∙ ap answer_of ((v.accepted g.0).1 g.1),
        );
        reported = λ Γ g. types-of Γ ((v.accepted Γ).1 g);
        refusal-8 = (λ a. v.refusal-8.0 (is-8 decided (sym answer ∙ a)), λ h. answer ∙ ap answer_of (v.refusal-8.1 h));
        refusal-9 = (λ a. v.refusal-9.0 (is-9 decided (sym answer ∙ a)), λ h. answer ∙ ap answer_of (v.refusal-9.1 h));
      }

-- ── the proof: run ──────────────────────────────────────────────────────────────────────────

module _ (l : Lent) (saved : SavedRun) (budget : ℕ) (now : ℤ) where
  machine-run : (x : Running) → RunPassed l saved budget now x → (r : Run) → x.run ≡ ok r
      → RunTakes l saved budget now (ran_of x.checked x.state r) (length r.passed) r.ending
  unfolding ran_of
  machine-run x p r e =
      let c = x.checked in
      let s = x.state in
      let accepted = is-accepted l saved (record { checked = c; state = s }) p.sound in
      let is_run = sym p.is_run ∙ e in
      let took = fine-at r is_run (run-takes c accepted l.ranks now budget s p.sound.sound) in
      let sound = fine-at r is_run (run_sound c accepted l.ranks now budget s p.sound.sound) in
      let after = last_of s r.passed in
      let same = last-all (λ x. x.store ≡ s.store) s r.passed refl (run-keeps (setting_of c l.ranks now) (type_at c.types) budget s r is_run) in
      record {
        checked = c;
        loads = p.sound.loads;
        before = s;
        entry = p.sound.holds;
        states = r.passed;
        is_steps = took.steps;
        count = refl;
        in_budget = took.few;
        ends = took.ends;
        exit = still-held c l.term_table l.quad_table saved s p.sound.holds accepted after
            (last-sound c s r.passed p.sound.sound sound.passed) same (reported c);
      }

  run-takes-steps : (t : Result Running) → run_tests l saved budget now ≡ t → (ran : Ran) → run_call l saved budget now ≡ ok ran
      → (steps : ℕ) (ending : RunState) → ran.answer ≡ Ok (record { steps = steps; state = ending }) → RunTakes l saved budget now ran steps ending
  unfolding run_call run_result
  run-takes-steps (refused n) q ran e steps ending a =
      let given : run_call l saved budget now ≡ ok (record { answer = Err n; saved = saved }) = rw q refl in
      let answer : Err n ≡ ran.answer = ap (λ (r : Ran). r.answer) (ok-is (sym given ∙ e)) in
      absurd (let z : ◌≡◌ {A = ℕ} 0 1 = cc in omega arith)
  run-takes-steps (passed x) q ran e steps ending a =
      let p = run-passed l saved budget now x q in
      let f = run-fine l saved budget now x p in
      let r = f.0 in
      let same : ran_of x.checked x.state r ≡ ran = ok-is (sym (run-gives l saved budget now x q r f.1) ∙ e) in
      as_said x r ran same steps ending a (machine-run x p r f.1)
    where
      as_said : (x : Running) (r : Run) (ran : Ran) → ran_of x.checked x.state r ≡ ran → (steps : ℕ) (ending : RunState)
          → ran.answer ≡ Ok (record { steps = steps; state = ending }) → RunTakes l saved budget now (ran_of x.checked x.state r) (length r.passed) r.ending
          → RunTakes l saved budget now ran steps ending
      as_said x r ran same steps ending a takes =
          let told : ◌≡◌ {A = OrRefusal RunEnd} (Ok (record { steps = length r.passed; state = r.ending })) (Ok (record { steps = steps; state = ending })) =
          unfold ran_of in ap (λ (r : Ran). r.answer) same ∙ a in
          let both : ◌≡◌ {A = RunEnd} (record { steps = length r.passed; state = r.ending }) (record { steps = steps; state = ending }) = cc in
          let count : length r.passed ≡ steps = ap (λ (e : RunEnd). e.steps) both in
          let end : r.ending ≡ ending = ap (λ (e : RunEnd). e.state) both in
          subst (λ (n : ℕ). RunTakes l saved budget now ran n ending) count
          (subst (λ (e : RunState). RunTakes l saved budget now ran (length r.passed) e) end
          (subst (λ (x : Ran). RunTakes l saved budget now x (length r.passed) r.ending) same takes))

-- ── the proof: page ─────────────────────────────────────────────────────────────────────────

module _ (l : Lent) (saved : SavedRun) (g : ℕ) (page : List ℕ) where
  page-takes : (t : Result Taking) → page_tests l saved g page ≡ t → (skipped : ℕ)
      → (page_call l saved g page).returned.answer ≡ Ok skipped → PageTakes l saved g page skipped
  unfolding page_call page_result
  page-takes (refused n) q skipped a =
      let answer : Err n ≡ Ok skipped = rw q at a in
      absurd (let z : ◌≡◌ {A = ℕ} 0 1 = cc in omega arith)
  page-takes (passed x) q skipped a =
      let p = taking-passed l saved g page x q in
      let c = x.checked in
      let s = p.state in
      let k = x.taken in
      let accepted = is-accepted l saved (record { checked = c; state = s }) p.sound in
      let read = page-passed c g s page k p.is_taken in
      let sound = page-sound c accepted g page s k p.sound.sound p.is_taken in
      let valid = page-keeps-valid c g page s k p.is_taken (valid-held c l.term_table l.quad_table saved s p.sound.holds) in
      let leaves = page-leaves c accepted g page s k p.sound.sound p.is_taken read.triples read.read in
      let answer : Ok k.skipped ≡ Ok skipped = rw q at a in
      let count : k.skipped ≡ skipped = cc in
      record {
        checked = c;
        loads = p.sound.loads;
        before = s;
        entry = p.sound.holds;
        triples = read.triples;
        reads = read.read;
        after = k.state;
        leaves = subst (λ (n : ℕ). PageLeaves c.schema g read.triples s (record { skipped = n; state = k.state })) count leaves;
        exit = rw q (held-again c accepted k.state sound valid (reported c));
      }

-- ── the theorem ─────────────────────────────────────────────────────────────────────────────

pub demand-2 : Demand2
unfolding load
demand-2 = record {
  reaches = λ l. number-reaches l (load_tests l) (load-reaches l);
  load = load-decides;
  run = λ l saved budget now ran e. run-takes-steps l saved budget now (run_tests l saved budget now) refl ran e;
  page = λ l saved g page skipped e. page-takes l saved g page (page_tests l saved g page) refl skipped e;
}
