use Prim.Native.Nat.{◌≤◌, ◌-◌}
use mathlib.Core.Path.{◌≡◌}
use lib.ListN.{length}
use Rattle.fields.specs.Answers.{count_of}
use Rattle.laws.specs.Records.{records_at}
use Rattle.table.proofs.CountLaws.{count_from}
use Rattle.records.proofs.lists.count.Given as goal

abbrev pub invariant-loop-at : goal.invariant-loop-at
invariant-loop-at g l =
    (l.n ≤ l.at) × (l.at ≤ length l.s)
    × (count_of (records_at g.R.Record.read l.s 0) ≡ count_from l.n (records_at g.R.Record.read l.s l.at))

abbrev pub decreases-loop-at : goal.decreases-loop-at
decreases-loop-at g l = length l.s - l.at
