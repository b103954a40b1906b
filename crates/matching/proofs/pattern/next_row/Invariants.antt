use Rattle.definitions.specs.Limits.{pattern_width}
use Prim.Native.Nat.{◌+◌, ◌≤◌}
use mathlib.Core.Path.{◌≡◌}
use lib.ListN.{length}
use Rattle.definitions.specs.Terms.{Text}
use Rattle.matching.specs.Matching.{ahead, RowFrom}
use Rattle.matching.proofs.pattern.next_row.Given as goal

abbrev pub invariant-loop-k : goal.invariant-loop-k
invariant-loop-k l = (length l.row ≡ pattern_width + 1) × (l.k ≤ l.size) × ((t : Text) → ((l.b ≡ 0 → ⊥) → RowFrom l.pattern 0 t l.later) → RowFrom l.pattern l.k (ahead l.b t) l.row)
