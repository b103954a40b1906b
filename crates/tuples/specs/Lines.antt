-- The evaluator's lines of a state that was entered.
use Rattle.std.specs.Prelude.{ℕ, ◌≡◌, List, Bool}
use Rattle.definitions.specs.Bytes.{signed}
use Rattle.definitions.specs.Tree.{Script, block, Binder, Query}
use Rattle.definitions.specs.Scope.{variables_of}
use Rattle.definitions.specs.Calls.{Sound}
use Rattle.definitions.specs.declared.SavedControl.{SavedControl}
use Rattle.query.specs.declared.Context.{Context}
use Rattle.acts.specs.Steps.{Top}
use Rattle.answers.specs.Lends.{Lends}
use Rattle.output.specs.Written.{Written}
use Rattle.evaluator_input.specs.Input.{tuples_from, tuples_in}
use Rattle.tuples.specs.Asking.{tuple_line, tuple_lines, asked_on, asked_lines}

module _ {script ranks table quads leasts : List ℕ} {x : Context} {run : SavedControl} (w : Lends script ranks table quads leasts x run) where
  -- the state that the run is at
  abbrev pub sound_here : Sound
  sound_here = record { checked = w.here.checked; state = w.here.state }

  -- lines for the first tuples, with the block on top
  abbrev pub TuplesWritten : {at : ℕ} → Top w.here at → (count : ℕ) → (tuples old new : List ℕ) → (r : ℕ) → Type 0
  TuplesWritten {at} t count tuples old new r =
      (each : Bool) (bs : List Binder) (q : Query) (c : Script) → t.item.script ≡ block at each bs q c
      → Written (tuple_lines (tuple_line sound_here ranks (signed x.clock) (record { variables = variables_of bs; query = q })) (tuples_from count tuples 0)) old new 0 r

  -- the lines of a state that was entered
  abbrev pub lines_here : (tuples : List ℕ) → List ℕ
  lines_here tuples = asked_lines sound_here ranks (signed x.clock) (tuples_in tuples) (asked_on w.here.state.control.stack)
