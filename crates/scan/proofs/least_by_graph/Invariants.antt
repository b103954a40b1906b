use mathlib.Core.Path.{◌≡◌}
use Prim.Native.Nat.{ℕ, ◌-◌, ◌/◌, ◌≤◌, ◌<◌}
use lib.ListN.{length, get_or}
use Rattle.keys.specs.Keys.{graph_weight, rows_from}
use Rattle.scan.specs.Scan.{scan}
use Rattle.scan.specs.Codes.{sought_code, places_at}
use Rattle.scan.proofs.least_by_graph.Given as goal

abbrev pub invariant-loop-i : goal.invariant-loop-i
invariant-loop-i l =
    (l.i ≤ length l.keys) × (l.best ≤ sought_code) × (scan (places_at l.codes) l.lo l.end (rows_from (length l.keys) l.keys 0) ≡ scan (places_at l.codes) l.lo l.best (rows_from (length l.keys - l.i) l.keys l.i))
    × ((j k : ℕ) → j < l.i → l.i ≤ k → k < length l.keys → get_or l.keys j 0 / graph_weight < get_or l.keys k 0 / graph_weight)

abbrev pub decreases-loop-i : goal.decreases-loop-i
decreases-loop-i l = length l.keys - l.i
