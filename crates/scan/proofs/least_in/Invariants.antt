use mathlib.Core.Bool.{true}
use mathlib.Core.Path.{◌≡◌}
use Prim.Native.Nat.{◌-◌, ◌≤◌}
use lib.ListN.{length}
use Rattle.keys.specs.Keys.{rows_from}
use Rattle.scan.specs.Scan.{scan}
use Rattle.scan.specs.Codes.{sought_code, places_at}
use Rattle.scan.proofs.least_in.Given as goal

abbrev pub invariant-loop-i : goal.invariant-loop-i
invariant-loop-i l =
    (l.i ≤ length l.keys) × (scan (places_at l.codes) l.lo l.end (rows_from (length l.keys - l.from) l.keys l.from) ≡ scan (places_at l.codes) l.lo l.best (rows_from (length l.keys - l.i) l.keys l.i))
    × (l.part.rises ≡ true → l.best ≡ l.end) × (l.best ≤ sought_code)

abbrev pub decreases-loop-i : goal.decreases-loop-i
decreases-loop-i l = length l.keys - l.i
