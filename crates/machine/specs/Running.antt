-- What a step and a run answer: the machine's own.
use Rattle.std.specs.Prelude.{ℕ, ◌≡◌, List, [], ◌∷◌, Bool, false, length}
use Rattle.definitions.specs.Outcome.{ok}
use Rattle.definitions.specs.Machine.{Item, Next, Run, act, is_each_block, last_of, look, next}
use Rattle.definitions.specs.Machine as Machine
use Rattle.definitions.specs.Saved.{saved_control}
use Rattle.definitions.specs.declared.RunState.{RunState}
use Rattle.definitions.specs.declared.SavedControl.{SavedControl}
use Rattle.query.specs.declared.Context.{Context}
use Rattle.machine.specs.declared.Stopped.{Stopped}
use Rattle.acts.specs.Steps.{Stepped, Top, stepped_of}
use Rattle.answers.specs.Lends.{Lends, setting, typing}

-- an each block is on top
abbrev pub each_on : List Item → Bool
each_on [] = false
each_on (i ∷ rest) = is_each_block i.script

module _ {script ranks table quads leasts : List ℕ} {x : Context} {run : SavedControl} (w : Lends script ranks table quads leasts x run) where
  -- what the item on top does, now
  abbrev pub ActsNow : {at : ℕ} → Top w.here at → Stepped → Type 0
  ActsNow t r =
      (n : Next) → act (setting w) (typing w) w.here.state t.rest t.item.last t.item.script ≡ ok n → r ≡ stepped_of run n

  -- the machine meets no fault, and its step is this
  pub record StepOf (r : Stepped) : Type 0 where
    pub after : Next
    pub no_fault : next (setting w) (typing w) w.here.state ≡ ok after
    pub result : r ≡ stepped_of run after

  -- with no budget left
  abbrev pub LookOf : RunState → Type 0
  LookOf r = look (setting w) (typing w) w.here.state w.here.state.control.stack ≡ ok r

  -- the machine's run meets no fault; its steps, its ending and its last state's control are these
  pub record RunOf (budget : ℕ) (r : Stopped) : Type 0 where
    pub ran : Run
    pub no_fault : Machine.run (setting w) (typing w) budget w.here.state ≡ ok ran
    pub steps : r.steps ≡ length ran.passed
    pub ending : r.ending ≡ ran.ending
    pub control : r.control ≡ saved_control run.types (last_of w.here.state ran.passed).control
