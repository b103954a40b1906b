use mathlib.Core.Path.{◌≡◌}
use lib.ListN.{drop}
use Rattle.definitions.specs.Scope.{variables}
use Rattle.definitions.specs.Suggest.{lowest_in}
use Rattle.facts.specs.Codes.{all_written}
use Rattle.lowest_type.specs.Does.{does_in}
use Rattle.lowest_type.proofs.lowest.Given as goal

abbrev pub invariant-loop-x : goal.invariant-loop-x
invariant-loop-x l =
    let ws = all_written l.written in lowest_in ws (does_in l.t ws) variables ≡ lowest_in ws (does_in l.t ws) (drop l.x variables)
