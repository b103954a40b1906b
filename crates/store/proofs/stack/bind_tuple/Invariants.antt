use Prim.Native.Nat.{◌≤◌, ◌-◌, ◌+◌, ◌*◌}
use mathlib.Core.Path.{◌≡◌}
use lib.ListN.{take, drop}
use Rattle.laws.specs.Pairs.{pair_variables}
use Rattle.store.specs.Stack.{bound_all}
use Rattle.store.proofs.BindLaws.{with_bound}
use Rattle.store.proofs.stack.bind_tuple.Given as goal

abbrev pub invariant-loop-k : goal.invariant-loop-k
invariant-loop-k l =
    (l.k ≤ l.count) × (with_bound l.next l.bound l.bindings ≡ bound_all l.next (pair_variables (l.count - l.k) l.script (l.at + 2 * l.k)) (take (l.count - l.k) (drop l.k l.tuple)))
