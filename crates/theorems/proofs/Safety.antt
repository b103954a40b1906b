-- Type safety (demand 3): over any list of calls the untyped machine meets no fault, and every state that a call passes is sound.
use Rattle.definitions.specs.declared.RunEnd.{RunEnd}
use Rattle.definitions.specs.declared.Refusal.{Refusal}
use Rattle.definitions.specs.declared.Refusal.TheVariants.{WrongLength, BadRun}
use Rattle.std.specs.Prelude.{Ok, Err}
use Prim.Native.Nat.{ℕ, ◌≤◌, ◌<◌}
use native.Mathlib.Omega.{arith}
use mathlib.Core.Path.{◌≡◌, refl, sym, ap, fun_ext, ◌∙◌}
use mathlib.Core.Logic.{⊎_elim}
use mathlib.Core.List.{List, [], ◌∷◌}
use mathlib.Core.Bool.{◌&&◌}
use mathlib.Core.Option.{some, none-ne-some}
use lib.Dec.{leb, le→leb}
use lib.ListN.{length, get_or, get_or-eq_default}
use lib.IntN.{ℤ}
use Rattle.definitions.specs.Limits.{term_limit, quad_limit, graph_limit, budget_limit, script_limit}
use Rattle.definitions.specs.Terms.{is_date_time}
use Rattle.definitions.specs.Types.{Datatype, Ty, plain, type_of_code}
use Rattle.definitions.specs.Typing.{Written, unbound, undecided, fixed, written_types, type_at}
use Rattle.definitions.specs.Outcome.{Outcome, ok}
use Rattle.definitions.specs.Evaluate.{same_quad, stored}
use Rattle.definitions.specs.Machine.{Item, State, Run, last_of, loaded, in_limits, in_order}
use Rattle.definitions.specs.Result.{Result, refused, passed}
use Rattle.definitions.specs.Calls as Calls
use Rattle.definitions.specs.Calls.{Checked, check, constants_of, reported, Lengths, tables_fit, run_in, PageTaken, take_in}
use Rattle.definitions.specs.CallList.{Call, running, paging, ran, Done, run_done, page_done, machine_call, machine_calls}
use Rattle.definitions.specs.declared.RunState.{RunState}
use Rattle.definitions.specs.declared.RunState.TheVariants.{Spent}
use Rattle.laws.specs.Lists.{All}
use Rattle.laws.proofs.All.{all-weaken, all-conj, all-at}
use Rattle.laws.proofs.Equality.{same-quad, quad-refl}
use Rattle.laws.specs.Outcomes.{Fine, fine}
use Rattle.laws.proofs.NoFault.{fine-then, fine-ok}
use Rattle.laws.proofs.Results.{not-refused}
use Rattle.laws.proofs.Refusing.{by-require}
use Rattle.laws.specs.Typings.{Allowed}
use Rattle.laws.proofs.Order.{type-of-code}
use Rattle.laws.proofs.Ranges.{split}
use Rattle.laws.proofs.Typings.{fits-length, fits-at}
use Rattle.laws.proofs.Check.{check-accepted, reported-length, variable-count}
use Rattle.laws.proofs.Reported.{reported-at, type-reported}
use Rattle.laws.proofs.Places.{at_root, place_found, typed_at}
use Rattle.laws.specs.Sound.{Accepted, Sound}
use Rattle.laws.specs.Quads.{QuadFacts}
use Rattle.laws.proofs.SoundMeans.{StackFacts, BindingFacts, facts, sound, no_last}
use Rattle.safety.proofs.RunSound.{RunSound, run_sound, last-sound}
use Rattle.safety.proofs.PageSound.{page-sound}
use Rattle.theorems.specs.WellTyped.{type_or, reported_type, VariableTyped, ItemTyped, WellTyped}

-- ── what a sound state is, in demand 3's words ──────────────────────────────────────────────

-- the reported types are those worked out
code-type : (w : Written) (τ : Ty) → Allowed w τ → type_or (type_of_code (Calls.reported_type w τ)) ≡ τ
code-type unbound τ e = sym e
code-type undecided τ e = ap type_or (type-of-code τ)
code-type (fixed σ) τ e = ap type_or (type-of-code τ)

reported-types : (c : Checked) → Accepted c → reported_type c ≡ type_at c.types
reported-types c accepted = fun_ext go
  where
    ws : List Written
    ws = written_types c.root

    n : length c.types ≡ length ws
    n = fits-length ws c.types accepted.written

    go : (v : ℕ) → reported_type c v ≡ type_at c.types v
    go v =
        ⊎_elim
        (λ (h : length ws ≤ v).
        ap (λ (k : ℕ). type_or (type_of_code k)) (get_or-eq_default (reported c) 0 (omega (arith, reported-length ws c.types n)))
        ∙ sym (get_or-eq_default c.types (plain Datatype.any_uri) (omega (arith, n))))
        (λ (h : v < length ws).
        ap (λ (k : ℕ). type_or (type_of_code k)) (reported-at ws c.types v n h)
        ∙ code-type (get_or ws v unbound) (type_at c.types v) (fits-at ws c.types accepted.written v))
        (split (length ws) v)

module _ (c : Checked) (accepted : Accepted c) where
  items-typed : (s : State) (stack : List Item) → StackFacts c.root (length s.store.terms) s.control.bindings stack → All (ItemTyped c s) stack
  items-typed s [] h = tt
  items-typed s (i ∷ rest) h =
      let k = h.0 in (
        record {
          depth = k.depth;
          place = place_found 0 script_limit accepted.placed k.in_root;
          typed = rw (reported-types c accepted)
              (typed_at k.in_root (constants_of c.schema c.terms) (type_at c.types) accepted.typed);
          bound = k.bound;
        },
        items-typed s rest h.1,
      )

  variable-typed : (s : State) (v i : ℕ) → BindingFacts c.schema (type_at c.types) s.store.terms c.root v i → VariableTyped c s v i
  variable-typed s v i b =
      let τ : reported_type c v ≡ type_at c.types v = ap (λ (f : ℕ → Ty). f v) (reported-types c accepted) in
      let n = fits-length (written_types c.root) c.types accepted.written ∙ variable-count c.root in
      record {
        binds = b.binds;
        code = type-reported c.root c.types n v b.below b.binds ∙ ap some (sym τ);
        holds = rw τ b.holds;
      }

  pub well_typed_lem : (s : State) → Sound c s → WellTyped c s
  unfolding stored
  well_typed_lem s h =
      let k = facts c accepted s h in
      record {
        variables = λ v i e. variable-typed s v i (k.bindings v i e);
        triples = λ q m.
            all-at same_quad same-quad quad-refl (QuadFacts c.schema s.store.terms s.store.fetched) q s.store.quads k.quads m;
        quads_in_order = k.quads_in_order;
        items = items-typed s s.control.stack k.stack;
      }

  -- a load leaves a sound state
  pub loaded-sound : Sound c (loaded c.terms c.root)
  unfolding loaded in_limits in_order
  loaded-sound =
      sound c accepted (loaded c.terms c.root)
      (record {
        terms_apart = accepted.apart;
        extends = λ i t e. e;
        quads_in_order = tt;
        quads = tt;
        fetched_apart = tt;
        fetched = tt;
        limits = all-conj (leb (length c.terms) term_limit ∷ leb 0 quad_limit ∷ leb 0 graph_limit ∷ [])
            (le→leb (length c.terms) term_limit accepted.fits, (tt, (tt, tt)));
        stack = (
          record {
            depth = 1;
            in_root = at_root;
            deep = omega arith;
            bound = λ v m. absurd (accepted.closed v m);
            last = no_last (length c.terms) c.root;
          },
          tt,
        );
        bindings = λ v i e. absurd (none-ne-some i e);
      })

-- ── one call ────────────────────────────────────────────────────────────────────────────────

-- a run call reports the states that it passes, at most its budget and as many where it is spent
abbrev pub Counted : Call → Done → Type 0
Counted (running n budget now) d =
    (e : RunEnd) → d.answer ≡ ran (Ok e) → (e.steps ≡ length d.passed) × (e.steps ≤ budget) × (e.state ≡ Spent → e.steps ≡ budget)
Counted (paging n g page) d = Unit {0}

pub record CallSound (c : Checked) (x : Call) (d : Done) : Type 0 where
  -- every state that the call passes is sound, and so well typed
  pub passed : All (Sound c) d.passed
  pub typed : All (WellTyped c) d.passed
  pub counted : Counted x d

module _ (c : Checked) (accepted : Accepted c) where
  module _ (n : Lengths) (budget : ℕ) (now : ℤ) where
    refused-run : (x : Refusal) → Fine (CallSound c (running n budget now)) (run_done (refused x))
    unfolding run_done
    refused-run x =
        fine {a = record { answer = ran (Err x); passed = [] }}
        (record { passed = tt; typed = tt; counted = λ r e. absurd (let z : ◌≡◌ {A = ℕ} 0 1 = cc in omega arith) })

    passed-run : {o : Outcome Run} → Fine (RunSound c budget) o → Fine (CallSound c (running n budget now)) (run_done (passed o))
    unfolding run_done
    passed-run h = fine-then h λ r p. fine {a = record { answer = ran (Ok (record { steps = length r.passed; state = r.ending })); passed = r.passed }} (record {
      passed = p.passed;
      typed = all-weaken (Sound c) (WellTyped c) (well_typed_lem c accepted) r.passed p.passed;
      counted = λ e q.
          let end : ◌≡◌ {A = RunEnd} (record { steps = length r.passed; state = r.ending }) e = cc in
          let steps : length r.passed ≡ e.steps = ap (λ (e : RunEnd). e.steps) end in
          let ending : r.ending ≡ e.state = ap (λ (e : RunEnd). e.state) end in
          (omega (arith, steps), omega (arith, steps, p.steps), λ s. let spent = p.spent (ending ∙ s) in omega (arith, steps, spent));
    })

  paged-call : (n : Lengths) (g : ℕ) (page : List ℕ) (r : Result PageTaken) → ((k : PageTaken) → r ≡ passed k → Sound c k.state)
      → CallSound c (paging n g page) (page_done r)
  unfolding page_done
  paged-call n g page (refused x) h = record { passed = tt; typed = tt; counted = tt }
  paged-call n g page (passed k) h = record { passed = (h k refl, tt); typed = (well_typed_lem c accepted k.state (h k refl), tt); counted = tt }

  pub call-sound : (ranks : List ℕ) (x : Call) (s : State) → Sound c s → Fine (CallSound c x) (machine_call c ranks x s)
  unfolding machine_call run_in
  call-sound ranks (running n budget now) s h =
      let ask : Result (Outcome Run) → Type 0 = λ r. Fine (CallSound c (running n budget now)) (run_done r) in
      by-require ask WrongLength (tables_fit n) _ (refused-run n budget now WrongLength)
      (by-require ask BadRun (leb budget budget_limit && is_date_time now) _ (refused-run n budget now BadRun)
      (passed-run n budget now (run_sound c accepted ranks now budget s h)))
  call-sound ranks (paging n g page) s h =
      fine (by-require (λ r. CallSound c (paging n g page) (page_done r)) WrongLength (tables_fit n) (take_in c g page s)
      (paged-call n g page (refused WrongLength) (λ k e. absurd (not-refused e)))
      (paged-call n g page (take_in c g page s) (λ k e. page-sound c accepted g page s k h e)))

-- ── any list of calls ───────────────────────────────────────────────────────────────────────

-- each call with what it did
abbrev pub Each : (Call → Done → Type 0) → List Call → List Done → Type 0
Each P [] [] = Unit {0}
Each P [] (d ∷ ds) = ⊥
Each P (x ∷ xs) [] = ⊥
Each P (x ∷ xs) (d ∷ ds) = P x d × Each P xs ds

calls-sound : (c : Checked) → Accepted c → (ranks : List ℕ) (xs : List Call) (s : State) → Sound c s → Fine (Each (CallSound c) xs) (machine_calls c ranks xs s)
unfolding machine_calls
calls-sound c accepted ranks [] s h = fine tt
calls-sound c accepted ranks (x ∷ xs) s h =
    fine-then (call-sound c accepted ranks x s h) λ d p.
    fine-then (calls-sound c accepted ranks xs (last_of s d.passed) (last-sound c s d.passed h p.passed)) λ ds q. fine (p, q)

-- no call meets a fault, and every state, from the first on, is well typed
pub record Safe (c : Checked) (ranks : List ℕ) (calls : List Call) (s : State) : Type 0 where
  pub start : WellTyped c s
  pub done : List Done
  pub no_fault : machine_calls c ranks calls s ≡ ok done
  pub each : Each (CallSound c) calls done

pub safety : (c : Checked) → Accepted c → (s : State) → Sound c s → (ranks : List ℕ) (calls : List Call) → Safe c ranks calls s
safety c accepted s h ranks calls =
    let r = fine-ok (calls-sound c accepted ranks calls s h) in
    record { start = well_typed_lem c accepted s h; done = r.0; no_fault = r.1; each = r.2 }

-- from the load of bytes that nothing refuses
pub safety-from-load : (terms schema script : List ℕ) (c : Checked) → check terms schema script ≡ passed c → (ranks : List ℕ) (calls : List Call)
    → Safe c ranks calls (loaded c.terms c.root)
safety-from-load terms schema script c e ranks calls =
    let accepted = check-accepted terms schema script c e in
    safety c accepted (loaded c.terms c.root) (loaded-sound c accepted) ranks calls
