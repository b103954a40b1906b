use Prim.Native.Nat.{◌-◌}
use mathlib.Core.Bool.{true}
use mathlib.Core.Path.{◌≡◌}
use lib.ListN.{length}
use Rattle.laws.specs.ReadAnswers.{is_some}
use Rattle.fields.specs.Answers.{distinct_in}
use Rattle.laws.specs.Records.{records_at}
use Rattle.records.proofs.lists.distinct.Given as goal

abbrev pub invariant-loop-at : goal.invariant-loop-at
invariant-loop-at g l =
    (is_some (records_at g.R.Comparable.read l.s l.at) ≡ true)
    × (distinct_in g.R.Comparable.alike (records_at g.R.Comparable.read l.s 0) ≡ distinct_in g.R.Comparable.alike (records_at g.R.Comparable.read l.s l.at))

abbrev pub decreases-loop-at : goal.decreases-loop-at
decreases-loop-at g l = length l.s - l.at
