use mathlib.Core.Path.{◌≡◌}
use lib.Dec.{eqb}
use lib.ListN.{drop}
use Rattle.definitions.specs.Lists.{distinct}
use Rattle.soundness.proofs.graphs.numbers_distinct.Given as goal

abbrev pub invariant-loop-i : goal.invariant-loop-i
invariant-loop-i l = distinct eqb l.list ≡ distinct eqb (drop l.i l.list)
