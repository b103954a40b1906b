use mathlib.Core.Path.{◌≡◌}
use lib.ListN.{length}
use Rattle.definitions.specs.Exports.{mark_of}
use Rattle.laws.proofs.Writing.{mapped}
use Rattle.layout.proofs.writing.write_marks.Given as goal

abbrev pub invariant-loop-i : goal.invariant-loop-i
invariant-loop-i l = (length l.out ≡ length l.initial.out) × (l.out ≡ mapped mark_of l.marks l.initial.out l.i)
