use Prim.Native.Nat.{◌+◌, ◌-◌, ◌*◌, ◌≤◌}
use mathlib.Core.Path.{◌≡◌}
use lib.ListN.{length, take}
use Rattle.output.specs.Written.{Written}
use Rattle.type_lines.specs.Lines.{line_room, bound_lines}
use Rattle.type_lines.proofs.put_lines.Given as goal

abbrev pub invariant-loop-i : goal.invariant-loop-i
invariant-loop-i l = (l.i ≤ length l.codes) × (l.at ≤ l.from + line_room * l.i) × (length l.out ≡ length l.initial.out) × Written (bound_lines 0 (take l.i l.codes)) l.initial.out l.out l.from l.at
