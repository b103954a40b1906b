use mathlib.Core.Bool.{◌&&◌}
use mathlib.Core.Path.{◌≡◌}
use lib.ListN.{drop}
use Rattle.definitions.specs.Bytes.{all_zero}
use Rattle.fields.proofs.numbers.is_zero.Given as goal

abbrev pub invariant-loop-x : goal.invariant-loop-x
invariant-loop-x l = l.zero && all_zero (drop l.x-index l.s) ≡ all_zero l.s
