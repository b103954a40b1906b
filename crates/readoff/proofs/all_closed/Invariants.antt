use Prim.Native.Nat.{◌≤◌, ◌-◌}
use mathlib.Core.Path.{◌≡◌}
use mathlib.Core.Bool.{true, not, ◌||◌}
use lib.ListN.{get_or}
use Rattle.definitions.specs.Limits.{variable_limit}
use Rattle.definitions.specs.Typing.{unbound, is_open}
use Rattle.facts.specs.Infer.{all_below, settled}
use Rattle.facts.specs.Codes.{all_written}
use Rattle.readoff.proofs.all_closed.Given as goal

abbrev pub invariant-loop-x : goal.invariant-loop-x
invariant-loop-x l = all_below l.x (λ y. not (is_open (get_or (all_written l.written) y unbound)) || settled l.t y) ≡ true
