use Rattle.definitions.specs.Limits.{language_range_width}
use Prim.Native.Nat.{◌≤◌}
use lib.Dec.{T}
use Rattle.definitions.specs.Lists.{every}
use Rattle.definitions.specs.Bytes.{unfilled}
use Rattle.definitions.specs.Terms.{tag_byte}
use Rattle.definitions.specs.Text.{without_star}
use Rattle.matching.proofs.RangeLaws.{Along}
use Rattle.matching.proofs.range.goes_on.Given as goal

abbrev pub invariant-loop-i : goal.invariant-loop-i
invariant-loop-i l = (T (every tag_byte (without_star (unfilled l.range))) → Along l.range l.tag l.i) × (l.i ≤ language_range_width)
