-- Of a script with no each block, every step takes one record of kinds 71 to 74 off the stack, and a run has ended where none is left.
use Rattle.definitions.specs.declared.Refusal.{Refusal}
use Rattle.definitions.specs.declared.Refusal.TheVariants.{WrongLength, BadRun}
use Rattle.std.specs.Prelude.{Ok, Err}
use Prim.Native.Nat.{ℕ, zero, suc, ◌+◌, ◌≤◌}
use native.Mathlib.Omega.{arith}
use mathlib.Core.Path.{◌≡◌, refl, ap}
use mathlib.Core.List.{List, [], ◌∷◌}
use mathlib.Core.Bool.{Bool, true, false, not, ◌&&◌, ◌||◌}
use mathlib.Core.Option.{Option, none, some}
use lib.Dec.{T, leb}
use lib.ListN.{length}
use Rattle.definitions.specs.Limits.{budget_limit}
use Rattle.definitions.specs.Lists.{is_in}
use Rattle.definitions.specs.Terms.{is_date_time}
use Rattle.definitions.specs.Tree.{Script, success, from_named, block, sequence}
use Rattle.definitions.specs.Scope.{variables_of}
use Rattle.definitions.specs.Total.{script_records, has_each}
use Rattle.definitions.specs.Typing.{type_at}
use Rattle.definitions.specs.Outcome.{Outcome, ok, ◌>>=◌, demand, from_named_no_uri}
use Rattle.definitions.specs.Evaluate.{Setting, Named, named, is_uri}
use Rattle.definitions.specs.Search.{Typing, Tuple, answer}
use Rattle.definitions.specs.Machine.{Item, State, fresh, with_stack, Next, step, stand, enter_named, enter_once, act, next_of, is_each_block, ending_of, look, Run, still, preceded, go_on, run, last_of}
use Rattle.definitions.specs.Result.{Result, refused, passed}
use Rattle.definitions.specs.Calls.{Checked, tables_fit, setting_of, run_in, PageTaken, take_in}
use Rattle.definitions.specs.CallList.{Call, running, paging, Answer, ran, paged, Done, run_done, page_done, machine_call}
use Rattle.definitions.specs.Numbers.{state_number}
use Rattle.definitions.specs.declared.RunState.{RunState}
use Rattle.definitions.specs.declared.RunState.TheVariants.{Ended, Wanted, Waiting, Spent}
use Rattle.laws.proofs.Tests.{by-test}
use Rattle.laws.specs.Outcomes.{OrFault, holds}
use Rattle.laws.proofs.NoFault.{holds_then, holds_after, holds-and}
use Rattle.laws.proofs.Results.{not-refused}
use Rattle.laws.proofs.Refusing.{by-require}
use Rattle.laws.proofs.PageCheck.{page-passed}
use Rattle.theorems.specs.ExactSteps.{stack_records}

-- ── what is left ────────────────────────────────────────────────────────────────────────────

-- no each block stands below the items of a stack
abbrev pub NoEach : List Item → Type 0
NoEach [] = Unit {0}
NoEach (i ∷ rest) = T (not (has_each i.script)) × NoEach rest

-- after so many steps, of n records those on the stack are left
pub record Left (n steps : ℕ) (s : State) : Type 0 where
  pub counted : steps + stack_records s.control.stack ≡ n
  pub none_each : NoEach s.control.stack

-- a state is ended exactly where n, the records that are left, is 0
abbrev pub EndedAt : (n : ℕ) → RunState → Type 0
EndedAt n r = (state_number r ≡ 0 → n ≡ 0) × (n ≡ 0 → state_number r ≡ 0)

not-ended : {n : ℕ} (r : RunState) → (state_number r ≡ 0 → ⊥) → 1 ≤ n → EndedAt n r
not-ended r h k = (λ e. absurd (h e), λ e. absurd (omega (arith, e)))

neither : (a b : Bool) → T (not (a || b)) → T (not a) × T (not b)
neither true b h = absurd h
neither false b h = (tt, h)

some-records : (c : Script) → 1 ≤ script_records c
unfolding script_records
some-records (success at) = omega arith
some-records (from_named at n c) = omega arith
some-records (block at each bs q c) = omega arith
some-records (sequence at c d) = omega arith

-- ── one step ────────────────────────────────────────────────────────────────────────────────

abbrev NextLeft : ℕ → Next → Type 0
NextLeft n (step s) = Left n 1 s
NextLeft n (stand r) = EndedAt n r

named-left : (n : ℕ) (s : State) (stack : List Item) → 1 + stack_records stack ≡ n → NoEach stack → (g : Named) → NextLeft n (enter_named s stack g)
unfolding enter_named
named-left n s stack e h g =
    by-test (NextLeft n) (is_in g.number s.store.fetched) (step (with_stack s stack)) (stand (Wanted g.number))
    (λ t. record { counted = e; none_each = h }) (λ t. not-ended (Wanted g.number) (λ z. omega (arith, z)) (omega (arith, e)))

once-left : (n : ℕ) (s : State) (vs : List ℕ) (stack : List Item) → 1 + stack_records stack ≡ n → NoEach stack → (o : Option Tuple)
    → NextLeft n (enter_once s vs stack o)
unfolding enter_once
once-left n s vs stack e h none = not-ended Waiting (λ z. omega (arith, z)) (omega (arith, e))
once-left n s vs stack e h (some t) = record { counted = e; none_each = h }

-- a look, which tells waiting from spent
ending-left : (n : ℕ) → 1 ≤ n → (x : Next) → NextLeft n x → EndedAt n (ending_of x)
ending-left n p (step s) h = not-ended Spent (λ z. omega (arith, z)) p
ending-left n p (stand r) h = h

-- ── a run ───────────────────────────────────────────────────────────────────────────────────

record RunLeft (s : State) (r : Run) : Type 0 where
  left : Left (stack_records s.control.stack) (length r.passed) (last_of s r.passed)
  ended : EndedAt (stack_records (last_of s r.passed).control.stack) r.ending

-- a run of no step
still-left : (s : State) (r : RunState) → NoEach s.control.stack → EndedAt (stack_records s.control.stack) r → RunLeft s (still r)
still-left s r h e = record { left = record { counted = omega arith; none_each = h }; ended = e }

module _ (σ : Setting) (Γ : Typing) where
  act-left : (s : State) (rest : List Item) → NoEach rest → (last : Option Tuple) (c : Script) → T (not (has_each c))
      → OrFault (NextLeft (script_records c + stack_records rest)) (act σ Γ s rest last c)
  unfolding act script_records has_each stack_records
  act-left s rest k last (success at) h = holds {a = step (with_stack s rest)} (record { counted = refl; none_each = k })
  act-left s rest k last (sequence at c d) h =
      let n = neither (has_each c) (has_each d) h in
      holds {a = step (with_stack s (fresh c ∷ fresh d ∷ rest))} (record { counted = omega arith; none_each = (n.0, (n.1, k)) })
  act-left s rest k last (from_named at n c) h =
      holds_after (named s.store.terms s.control.bindings n) λ g.
      holds-and (demand (is_uri g.term) from_named_no_uri) (holds (named-left (suc (script_records c) + stack_records rest) s (fresh c ∷ rest) (omega arith) (h, k) g))
  act-left s rest k last (block at false bs q c) h =
      holds_after (answer σ Γ s.store.terms s.store.quads s.control.bindings (variables_of bs) q none) λ t.
      holds (once-left (suc (script_records c) + stack_records rest) s (variables_of bs) (fresh c ∷ rest) (omega arith) (h, k) t)
  act-left s rest k last (block at true bs q c) h = absurd h

  next-left : (s : State) (stack : List Item) → NoEach stack → OrFault (NextLeft (stack_records stack)) (next_of σ Γ s stack)
  unfolding next_of stack_records
  next-left s [] h = holds {a = stand Ended} (λ e. refl, λ e. refl)
  next-left s (i ∷ rest) h = act-left s rest h.1 i.last i.script h.0

  look-left : (s : State) (stack : List Item) → NoEach stack → OrFault (EndedAt (stack_records stack)) (look σ Γ s stack)
  unfolding look stack_records
  look-left s [] h = holds {a = Ended} (λ e. refl, λ e. refl)
  look-left s (i ∷ rest) h = go (is_each_block i.script)
    where
      go : (each : Bool) → OrFault (EndedAt (script_records i.script + stack_records rest))
          (elim each as (λ b. Outcome RunState) [ true ↦ ok Spent | false ↦ act σ Γ s rest i.last i.script >>= λ n. ok (ending_of n) ])
      go true = holds {a = Spent} (not-ended Spent (λ z. omega (arith, z)) (omega (arith, some-records i.script)))
      go false =
          holds_then (act-left s rest h.1 i.last i.script h.0) λ n k.
          holds {a = ending_of n} (ending-left (script_records i.script + stack_records rest) (omega (arith, some-records i.script)) n k)

  on-left : (more : State → Outcome Run) → ((s : State) → NoEach s.control.stack → OrFault (RunLeft s) (more s)) → (s : State) → NoEach s.control.stack
      → (n : Next) → NextLeft (stack_records s.control.stack) n → OrFault (RunLeft s) (go_on more n)
  unfolding go_on
  on-left more f s h (step s') k =
      holds_then (f s' k.none_each) λ r p. holds {a = preceded s' r}
      (record { left = record { counted = omega (arith, p.left.counted, k.counted); none_each = p.left.none_each }; ended = p.ended })
  on-left more f s h (stand r) k = holds {a = still r} (still-left s r h k)

  run-left : (budget : ℕ) (s : State) → NoEach s.control.stack → OrFault (RunLeft s) (run σ Γ budget s)
  unfolding run
  run-left zero s h = holds_then (look-left s s.control.stack h) λ r e. holds {a = still r} (still-left s r h e)
  run-left (suc budget) s h = holds_then (next-left s s.control.stack h) λ n k. on-left (run σ Γ budget) (run-left budget) s h n k

-- ── calls ───────────────────────────────────────────────────────────────────────────────────

-- the steps that an answer tells
abbrev pub steps_in : Answer → ℕ
steps_in (ran (Ok e)) = e.steps
steps_in (ran (Err n)) = 0
steps_in (paged a) = 0

abbrev pub AnswerEnds : (n : ℕ) → Answer → Type 0
AnswerEnds n (ran (Ok e)) = EndedAt n e.state
AnswerEnds n (ran (Err m)) = Unit {0}
AnswerEnds n (paged a) = Unit {0}

pub record DoneLeft (s : State) (d : Done) : Type 0 where
  pub left : Left (stack_records s.control.stack) (steps_in d.answer) (last_of s d.passed)
  pub ended : AnswerEnds (stack_records (last_of s d.passed).control.stack) d.answer

module _ (s : State) (h : NoEach s.control.stack) where
  refused-run : (n : Refusal) → OrFault (DoneLeft s) (run_done (refused n))
  unfolding run_done
  refused-run n = holds {a = record { answer = ran (Err n); passed = [] }} (record { left = record { counted = omega arith; none_each = h }; ended = tt })

  passed-run : {o : Outcome Run} → OrFault (RunLeft s) o → OrFault (DoneLeft s) (run_done (passed o))
  unfolding run_done
  passed-run k =
      holds_then k λ r p. holds {a = record { answer = ran (Ok (record { steps = length r.passed; state = r.ending })); passed = r.passed }}
      (record { left = p.left; ended = p.ended })

  page-left : (r : Result PageTaken) → ((k : PageTaken) → r ≡ passed k → k.state.control ≡ s.control) → DoneLeft s (page_done r)
  unfolding page_done
  page-left (refused n) f = record { left = record { counted = omega arith; none_each = h }; ended = tt }
  page-left (passed k) f = record { left = rw (f k refl) (record { counted = omega arith; none_each = h }); ended = tt }

pub call-left : (c : Checked) (ranks : List ℕ) (x : Call) (s : State) → NoEach s.control.stack → OrFault (DoneLeft s) (machine_call c ranks x s)
unfolding machine_call run_in
call-left c ranks (running n budget now) s h =
    by-require (λ r. OrFault (DoneLeft s) (run_done r)) WrongLength (tables_fit n) _ (refused-run s h WrongLength)
    (by-require (λ r. OrFault (DoneLeft s) (run_done r)) BadRun (leb budget budget_limit && is_date_time now) _ (refused-run s h BadRun)
    (passed-run s h (run-left (setting_of c ranks now) (type_at c.types) budget s h)))
call-left c ranks (paging n g page) s h =
    holds (by-require (λ r. DoneLeft s (page_done r)) WrongLength (tables_fit n) (take_in c g page s) (page-left s h (refused WrongLength) (λ k e. absurd (not-refused e)))
    (page-left s h (take_in c g page s) (λ k e. ap (λ (k : PageTaken). k.state.control) (page-passed c g s page k e).result)))
