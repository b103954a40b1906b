use mathlib.Core.Path.{◌≡◌}
use lib.Dec.{eqb}
use lib.ListN.{length}
use Rattle.laws.proofs.Writing.{mapped}
use Rattle.layout.proofs.reading.read_marks.Given as goal

abbrev pub invariant-loop-i : goal.invariant-loop-i
invariant-loop-i l = (length l.out ≡ length l.initial.out) × (l.out ≡ mapped (eqb 1) l.marks l.initial.out l.i)
