use mathlib.Core.Path.{◌≡◌}
use lib.ListN.{length}
use Rattle.definitions.specs.Bytes.{little_bytes}
use Rattle.laws.proofs.Writing.{Put}
use Rattle.layout.proofs.NumberBytes.{after}
use Rattle.layout.proofs.writing.write_number.Given as goal

abbrev pub invariant-loop-i : goal.invariant-loop-i
invariant-loop-i l = (length l.out ≡ length l.initial.out) × (l.rest ≡ after l.i l.n) × Put l.initial.out l.out (little_bytes l.i l.n) l.i
