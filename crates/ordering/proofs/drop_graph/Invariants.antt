use mathlib.Core.Path.{◌≡◌}
use mathlib.Core.List.{◌++◌}
use Prim.Native.Nat.{◌-◌, ◌≤◌}
use lib.ListN.{length}
use Rattle.keys.specs.Keys.{keys_from}
use Rattle.ordering.specs.Sets.{others}
use Rattle.ordering.proofs.drop_graph.Given as goal

abbrev pub invariant-loop-i : goal.invariant-loop-i
invariant-loop-i l = record {
  below : l.kept ≤ l.i;
  size : length l.keys ≡ length l.initial.keys;
  left : others l.graph l.initial.keys ≡ keys_from l.kept l.keys 0 ++ keys_from (length l.initial.keys - l.i) l.keys l.i;
}
