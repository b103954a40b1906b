use Prim.Native.Nat.{◌≤◌}
use mathlib.Core.Path.{◌≡◌}
use mathlib.Core.List.{◌++◌}
use Rattle.number_terms.specs.Amounts.{front}
use Rattle.number_terms.proofs.first_digits.Given as goal

abbrev pub invariant-loop-i : goal.invariant-loop-i
invariant-loop-i l = (l.n ≡ front (l.whole ++ l.fraction) l.i) × (l.n ≤ l.limit)
