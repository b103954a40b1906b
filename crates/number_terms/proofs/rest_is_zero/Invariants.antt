use mathlib.Core.Path.{◌≡◌}
use mathlib.Core.List.{◌++◌}
use Rattle.number_terms.specs.Amounts.{rest_zero}
use Rattle.number_terms.proofs.rest_is_zero.Given as goal

abbrev pub invariant-loop-i : goal.invariant-loop-i
invariant-loop-i l = rest_zero (l.whole ++ l.fraction) l.keep ≡ rest_zero (l.whole ++ l.fraction) l.i
