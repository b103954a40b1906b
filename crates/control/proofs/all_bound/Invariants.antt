use mathlib.Core.Path.{◌≡◌}
use lib.ListN.{drop}
use Rattle.definitions.specs.Lists.{every}
use Rattle.definitions.specs.Scope.{variables}
use Rattle.control.specs.Control.{bound_at}
use Rattle.control.proofs.all_bound.Given as goal

abbrev pub invariant-loop-v : goal.invariant-loop-v
invariant-loop-v l = every (bound_at l.free l.bound) variables ≡ every (bound_at l.free l.bound) (drop l.v variables)
