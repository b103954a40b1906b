use Prim.Native.Nat.{◌-◌}
use mathlib.Core.Bool.{true}
use mathlib.Core.Path.{◌≡◌}
use lib.ListN.{length}
use Rattle.laws.specs.ReadAnswers.{is_some}
use Rattle.fields.specs.Answers.{again_in}
use Rattle.laws.specs.Records.{records_at}
use Rattle.records.proofs.lists.again.Given as goal

abbrev pub invariant-loop-i : goal.invariant-loop-i
invariant-loop-i g l =
    (is_some (records_at g.R.Comparable.read l.s l.i) ≡ true)
    × (again_in g.R.Comparable.alike (g.R.Comparable.read l.s l.at) (records_at g.R.Comparable.read l.s l.from)
    ≡ again_in g.R.Comparable.alike (g.R.Comparable.read l.s l.at) (records_at g.R.Comparable.read l.s l.i))

abbrev pub decreases-loop-i : goal.decreases-loop-i
decreases-loop-i g l = length l.s - l.i
