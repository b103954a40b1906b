use mathlib.Core.Path.{◌≡◌}
use Rattle.definitions.specs.Scope.{variables}
use Rattle.scan.specs.Codes.{free_code}
use Rattle.answers.specs.Answers.{known_code}
use Rattle.store.proofs.FillLaws.{made_to}
use Rattle.answers.proofs.known_of.Given as goal

abbrev pub invariant-loop-v : goal.invariant-loop-v
invariant-loop-v l = l.known ≡ made_to (known_code l.bound l.bindings) free_code variables 16 l.v
