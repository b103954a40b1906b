use Prim.Native.Nat.{◌+◌, ◌-◌, ◌*◌}
use mathlib.Core.Bool.{true}
use mathlib.Core.Path.{◌≡◌}
use Rattle.scope.specs.Bindings.{bind_all}
use Rattle.laws.specs.Pairs.{pair_variables}
use Rattle.reader.proofs.PairLaws.{pairs_from}
use Rattle.scope.proofs.scope.bind_pairs.Given as goal

abbrev pub invariant-loop-k : goal.invariant-loop-k
invariant-loop-k l = (bind_all (pair_variables l.count l.script l.first) l.initial.after ≡ bind_all (pair_variables (l.count - l.k) l.script (l.first + 2 * l.k)) l.after)
    × (pairs_from l.script l.count l.k (l.first + 2 * l.k) ≡ true)
