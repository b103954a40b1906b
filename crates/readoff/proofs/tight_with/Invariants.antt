use Prim.Native.Nat.{◌≤◌, ◌-◌}
use mathlib.Core.Path.{◌≡◌}
use mathlib.Core.Bool.{true}
use Rattle.definitions.specs.Limits.{variable_limit}
use Rattle.facts.specs.Infer.{all_below, tight}
use Rattle.readoff.proofs.tight_with.Given as goal

abbrev pub invariant-loop-x : goal.invariant-loop-x
invariant-loop-x l = all_below l.x (tight l.t l.p) ≡ true
