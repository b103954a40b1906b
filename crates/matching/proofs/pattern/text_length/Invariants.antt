use Prim.Native.Nat.{◌+◌, ◌≤◌}
use mathlib.Core.Path.{◌≡◌}
use lib.ListN.{length}
use Rattle.definitions.specs.Bytes.{unfilled}
use Rattle.matching.proofs.FieldLaws.{rest}
use Rattle.matching.proofs.pattern.text_length.Given as goal

abbrev pub invariant-loop-i : goal.invariant-loop-i
invariant-loop-i l = (length (unfilled l.field) ≡ l.i + length (rest l.field l.i)) × (l.i ≤ length l.field)
