use Prim.Native.Nat.{◌+◌, ◌-◌, ◌≤◌}
use mathlib.Core.Path.{◌≡◌}
use lib.ListN.{length, drop}
use Rattle.type_lines.specs.Lines.{bound_ones}
use Rattle.type_lines.proofs.bound_ones.Given as goal

abbrev pub invariant-loop-code : goal.invariant-loop-code
invariant-loop-code l = (l.code-index ≤ length l.codes) × (l.n ≤ l.code-index) × (l.n + bound_ones (drop l.code-index l.codes) ≡ bound_ones l.codes)
