use mathlib.Core.Path.{◌≡◌}
use lib.ListN.{drop}
use Rattle.definitions.specs.Lists.{every}
use Rattle.definitions.specs.Scope.{variables}
use Rattle.control.specs.Control.{binding_at}
use Rattle.control.proofs.bindings_sound.Given as goal

abbrev pub invariant-loop-v : goal.invariant-loop-v
invariant-loop-v l = every (binding_at l.leasts l.count l.bound l.numbers l.types) variables ≡ every (binding_at l.leasts l.count l.bound l.numbers l.types) (drop l.v variables)
