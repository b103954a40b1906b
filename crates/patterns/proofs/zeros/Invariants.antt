use Prim.Native.Nat.{◌-◌}
use mathlib.Core.Path.{◌≡◌}
use Rattle.definitions.specs.Bytes.{part, all_zero}
use Rattle.patterns.proofs.zeros.Given as goal

abbrev pub invariant-loop-i : goal.invariant-loop-i
invariant-loop-i l = all_zero (part l.s l.from (l.end - l.from)) ≡ all_zero (part l.s l.i (l.end - l.i))
