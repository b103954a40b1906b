use Prim.Native.Nat.{◌-◌}
use mathlib.Core.Path.{◌≡◌}
use Rattle.definitions.specs.Bytes.{part}
use Rattle.patterns.specs.Fields.{are_pieces}
use Rattle.patterns.proofs.FieldLaws.{good_from}
use Rattle.patterns.proofs.pieces_ok.Given as goal

abbrev pub invariant-loop-i : goal.invariant-loop-i
invariant-loop-i l = are_pieces (part l.s l.from (l.end - l.from)) ≡ good_from l.atom (part l.s l.i (l.end - l.i))
