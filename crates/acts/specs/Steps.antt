-- The saved control of a state of the machine, and what a step makes of it.
use Rattle.std.specs.Prelude.{ℕ, ◌≤◌, Bool, true, false, List, ◌∷◌, ◌≡◌, ℤ, length, take, Option as Maybe, None, Some, Result, Ok, Err}
use Rattle.std.proofs.Math.Option.{Option, none, some}
use Rattle.definitions.specs.Limits.{script_limit, depth_limit}
use Rattle.definitions.specs.Tree.{Script, block, Binder, Query, Name}
use Rattle.definitions.specs.Reading.{parsed, read_name}
use Rattle.definitions.specs.Scope.{variables_of}
use Rattle.definitions.specs.Typing.{type_at}
use Rattle.definitions.specs.Outcome.{ok}
use Rattle.definitions.specs.Evaluate.{Named, named}
use Rattle.definitions.specs.Search.{Tuple}
use Rattle.definitions.specs.Machine.{State, Item, Next, step, stand, act, fresh, enter_once, enter_each}
use Rattle.definitions.specs.Saved.{offset_of, saved_control}
use Rattle.definitions.specs.Calls.{Checked, setting_of}
use Rattle.definitions.specs.declared.SavedControl.{SavedControl}
use Rattle.definitions.specs.declared.RunState.{RunState}
use Rattle.laws.specs.Sound.{Accepted, Sound}
use Rattle.laws.specs.ScriptReads.{BlockAt}

-- ── what a step says ────────────────────────────────────────────────────────────────────────

-- the saved control after a step, or why there is none
abbrev pub Stepped : Type 0
Stepped = Result SavedControl RunState

-- a step to the next state's saved control, or none and why
unfoldable pub stepped_of : SavedControl → Next → Stepped
stepped_of run (step s) = Ok (saved_control run.types s.control)
stepped_of run (stand r) = Err r

-- ── the state that a saved control is of ────────────────────────────────────────────────────

-- a sound state of an accepted script, and no more
pub record Standing (script : List ℕ) (loaded : ℕ) (run : SavedControl) : Type 0 where
  pub checked : Checked
  pub state : State
  pub accepted : Accepted checked
  pub short : length script ≤ script_limit
  pub reads : parsed loaded script ≡ some checked.root
  pub sound : Sound checked state
  pub saved : run ≡ saved_control run.types state.control

-- with an item on top, whose record stands at an offset
pub record OnTop (script : List ℕ) (loaded : ℕ) (run : SavedControl) (at : ℕ) : Type 0 where
  pub here : Standing script loaded run
  pub item : Item
  pub rest : List Item
  pub stack : here.state.control.stack ≡ item ∷ rest
  pub place : at ≡ offset_of item.script

-- the item on top of a standing run, whose record stands at an offset
pub record Top {script : List ℕ} {loaded : ℕ} {run : SavedControl} (h : Standing script loaded run) (at : ℕ) : Type 0 where
  pub item : Item
  pub rest : List Item
  pub stack : h.state.control.stack ≡ item ∷ rest
  pub place : at ≡ offset_of item.script

abbrev pub on_top : {script : List ℕ} {loaded : ℕ} {run : SavedControl} (h : Standing script loaded run) {at : ℕ} → Top h at → OnTop script loaded run at
on_top h t = record { here = h; item = t.item; rest = t.rest; stack = t.stack; place = t.place }

-- the item acts on the rest
abbrev pub Acts : {script : List ℕ} {loaded : ℕ} {run : SavedControl} {at : ℕ} → OnTop script loaded run at → Stepped → Type 0
Acts {run = run} x r =
    (ranks : List ℕ) (clock : ℤ) (n : Next)
    → act (setting_of x.here.checked ranks clock) (type_at x.here.checked.types) x.here.state x.rest x.item.last x.item.script ≡ ok n
    → r ≡ stepped_of run n

-- ── names ───────────────────────────────────────────────────────────────────────────────────

-- a name stands at an offset
pub record NameReads (script : List ℕ) (at : ℕ) : Type 0 where
  pub loaded : ℕ
  pub left : ℕ
  pub name : Name
  pub ends : ℕ
  pub read : read_name script loaded left at ≡ some (name, ends)

-- the number of the term that the name at an offset stands for, wherever the machine finds one
abbrev pub NumberOf : SavedControl → (script : List ℕ) → (at number : ℕ) → Type 0
NumberOf run script at number =
    (s : State) → run ≡ saved_control run.types s.control → (n : NameReads script at) (g : Named)
    → named s.store.terms s.control.bindings n.name ≡ ok g → number ≡ g.number

-- ── a block that has its answer ─────────────────────────────────────────────────────────────

-- the first numbers of a tuple, where one was found
abbrev pub answer_of : Maybe (List ℕ) → (count : ℕ) → Option Tuple
answer_of None count = none
answer_of (Some tuple) count = some (take count tuple)

-- a block stands at an offset; its script begins where its query ends
pub record BlockReads (script : List ℕ) (loaded at : ℕ) : Type 0 where
  pub left : ℕ
  pub offset : ℕ
  pub each : Bool
  pub binders : List Binder
  pub query : Query
  pub body : Script
  pub ends : ℕ
  pub few : left ≤ depth_limit
  pub reads : BlockAt script loaded left at offset each binders query body ends

abbrev pub BodyAt : (script : List ℕ) → (loaded at body : ℕ) → Type 0
BodyAt script loaded at body = (b : BlockReads script loaded at) → body ≡ b.reads.next

-- a once block on top, with its answer
abbrev pub EntersOnce : {script : List ℕ} {loaded : ℕ} {run : SavedControl} {at : ℕ} → OnTop script loaded run at → Option Tuple → Stepped → Type 0
EntersOnce {run = run} {at = at} x o r =
    (bs : List Binder) (q : Query) (c : Script) → x.item.script ≡ block at false bs q c
    → r ≡ stepped_of run (enter_once x.here.state (variables_of bs) (fresh c ∷ x.rest) o)

abbrev pub EntersEach : {script : List ℕ} {loaded : ℕ} {run : SavedControl} {at : ℕ} → OnTop script loaded run at → Option Tuple → Stepped → Type 0
EntersEach {run = run} {at = at} x o r =
    (bs : List Binder) (q : Query) (c : Script) → x.item.script ≡ block at true bs q c
    → r ≡ stepped_of run (enter_each x.here.state (variables_of bs) x.rest (λ t. fresh c ∷ record { script = block at true bs q c; last = some t } ∷ x.rest) o)
