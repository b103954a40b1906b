use mathlib.Core.Path.{◌≡◌}
use Rattle.definitions.specs.Scope.{variables}
use Rattle.store.specs.Canonical.{number_of}
use Rattle.store.proofs.FillLaws.{made_to}
use Rattle.store.proofs.canonical.clean_bindings.Given as goal

abbrev pub invariant-loop-v : goal.invariant-loop-v
invariant-loop-v l = l.clean ≡ made_to (number_of l.bound l.bindings) 0 variables 16 l.v
