use mathlib.Core.Path.{◌≡◌}
use lib.ListN.{drop}
use Rattle.definitions.specs.Lists.{find}
use Rattle.definitions.specs.Types.{all_types}
use Rattle.definitions.specs.Suggest.{lowest_type}
use Rattle.facts.specs.Codes.{all_written}
use Rattle.lowest_type.specs.Does.{does_in}
use Rattle.lowest_type.proofs.lowest_type.Given as goal

abbrev pub invariant-loop-i : goal.invariant-loop-i
invariant-loop-i l =
    let ws = all_written l.written in lowest_type ws (does_in l.t ws) l.x ≡ find (does_in l.t ws l.x) (drop l.i all_types)
