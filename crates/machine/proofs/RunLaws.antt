-- Laws of a step and of a run: the item on top is found, the machine's step is taken, and step after step makes its run.
use Prim.Native.Nat.{ℕ, suc, ◌+◌, ◌-◌, ◌≤◌, ◌<◌}
use native.Mathlib.Omega.{arith}
use native.Mathlib.Nat.{sub-zero}
use mathlib.Core.Path.{◌≡◌, refl, ap, sym, subst, ◌∙◌}
use mathlib.Core.List.{List, [], ◌∷◌}
use mathlib.Core.Bool.{Bool, true, false}
use mathlib.Core.Option.{Option, none, some}
use lib.Dec.{T, eqb}
use lib.ListN.{length}
use Rattle.definitions.specs.Limits.{graph_limit}
use Rattle.definitions.specs.Bytes.{byte, signed}
use Rattle.definitions.specs.Tree.{Script, success, from_named, block, sequence, Binder, Query}
use Rattle.definitions.specs.Scope.{variables_of}
use Rattle.definitions.specs.Outcome.{Outcome, ok, ◌>>=◌}
use Rattle.definitions.specs.Evaluate.{Setting}
use Rattle.definitions.specs.Search.{Typing, Tuple}
use Rattle.definitions.specs.Machine.{State, Store, Item, Next, step, stand, fresh, act, enter_once, enter_each, next_of, next, Run, still, preceded, is_each_block, ending_of, go_on, look, last_of}
use Rattle.definitions.specs.Machine as Machine
use Rattle.definitions.specs.Saved.{saved_control, saved_store}
use Rattle.definitions.specs.Sound.{last_sound}
use Rattle.definitions.specs.Calls.{Checked}
use Rattle.definitions.specs.declared.RunState.{RunState}
use Rattle.definitions.specs.declared.RunState.TheVariants.{Ended, Spent}
use Rattle.definitions.specs.declared.SavedControl.{SavedControl}
use Rattle.definitions.specs.declared.SavedStore.{SavedStore}
use Rattle.laws.proofs.NoFault.{ok-is, fine-ok}
use Rattle.laws.proofs.RunStore.{next-keeps}
use Rattle.laws.proofs.Saved.{graphs-few}
use Rattle.laws.specs.ScriptReads.{ReadsAs}
use Rattle.laws.specs.Sound.{Sound}
use Rattle.safety.proofs.StepSound.{NextSound, next-sound}
use Rattle.std.specs.Prelude.{Option as Maybe, Ok, Err}
use Rattle.acts.specs.Steps.{Stepped, Standing, Top, on_top, answer_of, stepped_of, EntersOnce, EntersEach}
use Rattle.query.specs.declared.Context.{Context}
use Rattle.query.specs.StoreLent.{StoreLent}
use Rattle.answers.specs.Lends.{Lends, LendsStore, setting, typing, AnswersNow}
use Rattle.machine.specs.Running.{each_on, ActsNow, StepOf, LookOf, RunOf}
use Rattle.acts.proofs.TopLaws.{no_item}
use Rattle.acts.proofs.StepLaws.{item-facts, top, Blocked, blocked}

false-not-true : false ≡ true → ⊥
false-not-true e = let z : ◌≡◌ {A = ℕ} 0 1 = cc in omega arith

bind_ok : {A B : Type 0} {m : Outcome A} {a : A} → m ≡ ok a → (f : A → Outcome B) → (m >>= f) ≡ f a
unfolding ◌>>=◌
bind_ok {A} e f = ap (λ (x : Outcome A). x >>= f) e

-- ── whether an each block is on top ─────────────────────────────────────────────────────────

module _ {script : List ℕ} {loaded : ℕ} {run : SavedControl} (h : Standing script loaded run) where
  abbrev s : State
  s = h.state

  module _ (at : ℕ) (t : Top h at) where
    pub not-each : (byte script at ≡ 0x73 → ⊥) → false ≡ each_on s.control.stack
    not-each k = go t.item.script (top (on_top h t)).is ∙ ap each_on (sym t.stack)
      where
        go : (c : Script) → ReadsAs script loaded (top (on_top h t)).left at c (top (on_top h t)).ends → false ≡ is_each_block c
        go (success o) r = refl
        go (from_named o y c) r = refl
        go (block o each bs q c) r = absurd (k r.kind)
        go (sequence o c d) r = refl

    pub each-mode : byte script at ≡ 0x73 → eqb (byte script (at + 1)) 1 ≡ each_on s.control.stack
    each-mode k =
        let b = blocked (on_top h t) k in
        b.reads.reads.is_mode ∙ (ap is_each_block (sym b.is) ∙ ap each_on (sym t.stack))

  pub none_each : run.height ≡ 0 → false ≡ each_on s.control.stack
  none_each e = ap each_on (sym (no_item h e))

-- ── a block ─────────────────────────────────────────────────────────────────────────────────

module _ {script ranks table quads leasts : List ℕ} {x : Context} {run : SavedControl} {at : ℕ} (w : Lends script ranks table quads leasts x run) (t : Top w.here at)
    (kind : byte script at ≡ 0x73) (answer : Maybe (List ℕ))
    (answers : AnswersNow w t answer) (r : Stepped) where
  abbrev o : Option Tuple
  o = answer_of answer (byte script (at + 2))

  abbrev b : Blocked (on_top w.here t)
  b = blocked (on_top w.here t) kind

  by_mode : (each : Bool) → b.reads.each ≡ each → t.item.script ≡ block at each b.reads.binders b.reads.query b.reads.body
  by_mode each e = b.is ∙ ap (λ (m : Bool). block at m b.reads.binders b.reads.query b.reads.body) e

  pub each-acts : eqb (byte script (at + 1)) 1 ≡ true → EntersEach (on_top w.here t) o r → ActsNow w t r
  unfolding act ◌>>=◌
  each-acts m h n e =
      let is = by_mode true (sym b.reads.reads.is_mode ∙ m) in
      let bs = b.reads.binders in
      let q = b.reads.query in
      let d = b.reads.body in
      let enter : Option Tuple → Next =
      enter_each w.here.state (variables_of bs) t.rest (λ u. fresh d ∷ record { script = block at true bs q d; last = some u } ∷ t.rest) in
      let f : act (setting w) (typing w) w.here.state t.rest t.item.last (block at true bs q d) ≡ ok n =
      ap (act (setting w) (typing w) w.here.state t.rest t.item.last) (sym is) ∙ e in
      let g : ok (enter o) ≡ ok n = ap (λ (m : Outcome (Option Tuple)). m >>= λ u. ok (enter u)) (sym (answers true bs q d is)) ∙ f in
      h bs q d is ∙ ap (stepped_of run) (ok-is g)

  -- a once block has no last tuple
  no_last : (bs : List Binder) (q : Query) (d : Script) → t.item.script ≡ block at false bs q d → t.item.last ≡ none
  unfolding last_sound
  no_last bs q d is =
      go t.item.last (subst (λ (e : Script). T (last_sound (length w.here.state.store.terms) e t.item.last)) is (item-facts (on_top w.here t)).last)
    where
      go : (l : Option Tuple) → T (last_sound (length w.here.state.store.terms) (block at false bs q d) l) → l ≡ none
      go none h = refl
      go (some u) h = absurd h

  pub once-acts : eqb (byte script (at + 1)) 1 ≡ false → EntersOnce (on_top w.here t) o r → ActsNow w t r
  unfolding act ◌>>=◌
  once-acts m h n e =
      let is = by_mode false (sym b.reads.reads.is_mode ∙ m) in
      let bs = b.reads.binders in
      let q = b.reads.query in
      let d = b.reads.body in
      let enter : Option Tuple → Next = enter_once w.here.state (variables_of bs) (fresh d ∷ t.rest) in
      let f : act (setting w) (typing w) w.here.state t.rest t.item.last (block at false bs q d) ≡ ok n =
      ap (act (setting w) (typing w) w.here.state t.rest t.item.last) (sym is) ∙ e in
      let g : ok (enter o) ≡ ok n =
      ap (λ (m : Outcome (Option Tuple)). m >>= λ u. ok (enter u))
      (sym (answers false bs q d is) ∙ ap (Machine.answer_now (setting w) (typing w) w.here.state (variables_of bs) q) (no_last bs q d is)) ∙ f in
      h bs q d is ∙ ap (stepped_of run) (ok-is g)

-- ── a look ──────────────────────────────────────────────────────────────────────────────────

-- an each block is not searched; another item tells what it would do
module _ (σ : Setting) (Γ : Typing) (s : State) where
  abbrev looks : List Item → Outcome RunState
  looks stack = look σ Γ s stack

  each-look : (stack : List Item) → each_on stack ≡ true → looks stack ≡ ok Spent
  unfolding look
  each-look [] e = absurd (false-not-true e)
  each-look (i ∷ rest) e =
      ap (λ (b : Bool). elim b as (λ d. Outcome RunState) [
        | true ↦ ok Spent
        | false ↦ act σ Γ s rest i.last i.script >>= λ n. ok (ending_of n)
      ]) e

  look-next : (stack : List Item) → each_on stack ≡ false → (n : Next) → next_of σ Γ s stack ≡ ok n
      → looks stack ≡ ok (ending_of n)
  unfolding look next_of
  look-next [] e n f = ap (λ (x : Next). ok (ending_of x)) (ok-is f)
  look-next (i ∷ rest) e n f =
      ap (λ (b : Bool). elim b as (λ d. Outcome RunState) [
        | true ↦ ok Spent
        | false ↦ act σ Γ s rest i.last i.script >>= λ n. ok (ending_of n)
      ]) e
      ∙ bind_ok f (λ n. ok (ending_of n))

-- ── one step ────────────────────────────────────────────────────────────────────────────────

module _ {script ranks table quads leasts : List ℕ} {x : Context} {run : SavedControl} (w : Lends script ranks table quads leasts x run) where
  abbrev c : Checked
  c = w.here.checked

  abbrev current : State
  current = w.here.state

  pub step-acts : (at : ℕ) (t : Top w.here at) (r : Stepped) → ActsNow w t r → StepOf w r
  unfolding next_of
  step-acts at t r h =
      let n = fine-ok (next-sound c w.here.accepted ranks (signed x.clock) current w.here.sound) in
      record { after = n.0; no_fault = n.1; result = h n.0 (ap (next_of (setting w) (typing w) current) (sym t.stack) ∙ n.1) }

  pub step-ends : run.height ≡ 0 → StepOf w (Err Ended)
  unfolding next_of stepped_of
  step-ends e =
      record { after = stand Ended; no_fault = ap (next_of (setting w) (typing w) current) (no_item w.here e); result = refl }

  -- with no budget left
  pub look-each : each_on current.control.stack ≡ true → LookOf w Spent
  look-each e = each-look (setting w) (typing w) current current.control.stack e

  -- why a step is none; a step that there is would be taken
  abbrev pub ending_in : Stepped → RunState
  ending_in (Ok control) = Spent
  ending_in (Err ending) = ending

  pub look-steps : each_on current.control.stack ≡ false → (r : Stepped) → StepOf w r → LookOf w (ending_in r)
  unfolding stepped_of
  look-steps e r h =
      look-next (setting w) (typing w) current current.control.stack e h.after h.no_fault
      ∙ ap ok (sym (ending_of_lem h.after) ∙ ap ending_in (sym h.result))
    where
      ending_of_lem : (n : Next) → ending_in (stepped_of run n) ≡ ending_of n
      ending_of_lem (step s) = refl
      ending_of_lem (stand q) = refl

pub graphs-low : {script ranks table quads leasts : List ℕ} {x : Context} {run : SavedControl} {store : SavedStore}
    → LendsStore script ranks table quads leasts x run store → store.graphs ≤ graph_limit
unfolding saved_store
graphs-low w =
    let h = w.lends.here in
    omega (arith, ap (λ (t : SavedStore). t.graphs) w.stored, graphs-few h.checked h.accepted h.state h.sound)

-- ── a run ───────────────────────────────────────────────────────────────────────────────────

-- the run that a number of steps and then another run make
pub record Gone (σ : Setting) (Γ : Typing) (budget steps : ℕ) (first now : State) (r : Run) : Type 0 where
  pub whole : Run
  pub is : Machine.run σ Γ budget first ≡ ok whole
  pub counts : length whole.passed ≡ steps + length r.passed
  pub ends : whole.ending ≡ r.ending
  pub last : last_of first whole.passed ≡ last_of now r.passed

-- so many steps of the budget are taken
pub record Going {script ranks table quads leasts : List ℕ} {x : Context} {run : SavedControl} (w : Lends script ranks table quads leasts x run) (budget steps : ℕ) (now : SavedControl) : Type 0 where
  pub state : State
  pub sound : Sound w.here.checked state
  pub stored : state.store ≡ w.here.state.store
  pub is : now ≡ saved_control run.types state.control
  pub few : steps ≤ budget
  pub goes : (r : Run) → Machine.run (setting w) (typing w) (budget - steps) state ≡ ok r
      → Gone (setting w) (typing w) budget steps w.here.state state r

module _ {script ranks table quads leasts : List ℕ} {x : Context} {run : SavedControl} (w : Lends script ranks table quads leasts x run) (budget : ℕ) where
  abbrev C : Checked
  C = w.here.checked

  pub sets-out : Going w budget 0 run
  sets-out =
      record {
        state = w.here.state;
        sound = w.here.sound;
        stored = refl;
        is = w.here.saved;
        few = omega arith;
        goes = λ r e.
            record {
              whole = r;
              is = ap (λ (b : ℕ). Machine.run (setting w) (typing w) b w.here.state) (sym (sub-zero budget)) ∙ e;
              counts = omega arith;
              ends = refl;
              last = refl;
            };
      }

  module _ (steps : ℕ) (now : SavedControl) (g : Going w budget steps now) where
    pub types_are : now.types ≡ run.types
    unfolding saved_control
    types_are = ap (λ (r : SavedControl). r.types) g.is

    -- what is lent is lent to the state of the moment
    abbrev pub lends-now : Lends script ranks table quads leasts x now
    lends-now =
        record {
          here = record {
            checked = C;
            state = g.state;
            accepted = w.here.accepted;
            short = w.here.short;
            reads = w.here.reads;
            sound = g.sound;
            saved = g.is ∙ ap (λ (ts : List ℕ). saved_control ts g.state.control) (sym types_are);
          };
          scope = w.scope;
          full = w.full;
          reports = types_are ∙ w.reports;
          told = w.told;
          ranked = w.ranked;
          lent = subst (λ (s : Store). StoreLent table quads leasts x C.schema s.terms s.quads) (sym g.stored) w.lent;
        }

    abbrev pub stored-now : {store : SavedStore} → store ≡ saved_store w.here.state.store → LendsStore script ranks table quads leasts x now store
    stored-now e = record { lends = lends-now; stored = e ∙ ap saved_store (sym g.stored) }

    module _ (more : steps < budget) where
      abbrev left : ℕ
      left = budget - (steps + 1)

      left_is : budget - steps ≡ suc left
      left_is = omega arith

      -- the machine's run from here, by its first step
      run_on_lem : (n : Next) → next (setting w) (typing w) g.state ≡ ok n → (q : Run) → go_on (Machine.run (setting w) (typing w) left) n ≡ ok q
          → Gone (setting w) (typing w) budget steps w.here.state g.state q
      unfolding Machine.run
      run_on_lem n e q f =
          g.goes q (ap (λ (b : ℕ). Machine.run (setting w) (typing w) b g.state) left_is ∙ (bind_ok e (go_on (Machine.run (setting w) (typing w) left)) ∙ f))

      pub steps_on : (after : SavedControl) → StepOf lends-now (Ok after) → Going w budget (steps + 1) after
      unfolding go_on stepped_of
      steps_on after h = go h.after h.no_fault h.result
        where
          go : (n : Next) → next (setting w) (typing w) g.state ≡ ok n → Ok after ≡ stepped_of now n → Going w budget (steps + 1) after
          go (stand q) e f = absurd cc
          go (step n) e f =
              let sure = fine-ok (next-sound C w.here.accepted ranks (signed x.clock) g.state g.sound) in
              let is : after ≡ saved_control now.types n.control = cc in
              record {
                state = n;
                sound = subst (NextSound C) (ok-is (sym sure.1 ∙ e)) sure.2;
                stored = next-keeps (setting w) (typing w) g.state (step n) e ∙ g.stored;
                is = is ∙ ap (λ (ts : List ℕ). saved_control ts n.control) types_are;
                few = omega arith;
                goes = λ q k.
                    let y = run_on_lem (step n) e (preceded n q) (bind_ok k (λ q. ok (preceded n q))) in
                    record { whole = y.whole; is = y.is; counts = omega (arith, y.counts); ends = y.ends; last = y.last };
              }

      pub stops-here : (ending : RunState) → StepOf lends-now (Err ending) → RunOf w budget (record { steps = steps; ending = ending; control = now })
      unfolding go_on stepped_of
      stops-here ending h = go h.after h.no_fault h.result
        where
          go : (n : Next) → next (setting w) (typing w) g.state ≡ ok n → Err ending ≡ stepped_of now n → RunOf w budget (record { steps = steps; ending = ending; control = now })
          go (step n) e f = absurd cc
          go (stand q) e f =
              let y = run_on_lem (stand q) e (still q) refl in
              let is : ending ≡ q = cc in
              record {
                ran = y.whole;
                no_fault = y.is;
                steps = omega (arith, y.counts);
                ending = is ∙ sym y.ends;
                control = g.is ∙ ap (λ (s : State). saved_control run.types s.control) (sym y.last);
              }

    pub spent-here : budget ≤ steps → (q : RunState) → LookOf lends-now q → RunOf w budget (record { steps = budget; ending = q; control = now })
    unfolding Machine.run
    spent-here l q e =
        let none_left : budget - steps ≡ 0 = omega (arith, g.few) in
        let y = g.goes (still q) (ap (λ (b : ℕ). Machine.run (setting w) (typing w) b g.state) none_left ∙ bind_ok e (λ q. ok (still q))) in
        record {
          ran = y.whole;
          no_fault = y.is;
          steps = omega (arith, y.counts, l, g.few);
          ending = sym y.ends;
          control = g.is ∙ ap (λ (s : State). saved_control run.types s.control) (sym y.last);
        }
