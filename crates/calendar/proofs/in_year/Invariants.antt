use Prim.Native.Nat.{suc, ◌≤◌}
use mathlib.Core.Path.{◌≡◌}
use lib.ListN.{length, drop}
use Rattle.definitions.specs.Calendar.{month_from, month_lengths}
use Rattle.calendar.proofs.in_year.Given as goal

abbrev pub invariant-loop-passed : goal.invariant-loop-passed
invariant-loop-passed l = (month_from l.year 1 (month_lengths l.year) l.day ≡ month_from l.year (suc l.passed) (drop l.passed l.length-items) l.left) × (l.passed ≤ 12)
    × (l.left ≤ l.day) × (length l.length-items ≡ 12)
