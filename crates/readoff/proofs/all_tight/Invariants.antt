use Prim.Native.Nat.{◌≤◌, ◌-◌}
use mathlib.Core.Path.{◌≡◌}
use mathlib.Core.Bool.{true}
use Rattle.definitions.specs.Limits.{variable_limit}
use Rattle.facts.specs.Infer.{all_below, tight}
use Rattle.readoff.proofs.all_tight.Given as goal

abbrev pub invariant-loop-p : goal.invariant-loop-p
invariant-loop-p l = all_below l.p (λ q. all_below variable_limit (tight l.t q)) ≡ true
