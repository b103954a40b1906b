use mathlib.Core.Path.{◌≡◌}
use Rattle.definitions.specs.Reading.{parsed}
use Rattle.laws.specs.ReadAnswers.{passes}
use Rattle.control.specs.Control.{items_held}
use Rattle.control.proofs.stack_sound.Given as goal

abbrev pub invariant-loop-below : goal.invariant-loop-below
invariant-loop-below l = passes (items_held l.count l.bound l.items l.height) (parsed l.loaded l.script) ≡ passes (items_held l.count l.bound l.items l.below) (parsed l.loaded l.script)
