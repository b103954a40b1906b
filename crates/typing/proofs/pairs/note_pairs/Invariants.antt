use Prim.Native.Nat.{◌+◌, ◌-◌, ◌*◌}
use mathlib.Core.Bool.{true}
use mathlib.Core.Path.{◌≡◌}
use Rattle.reader.proofs.PairLaws.{pairs_from}
use Rattle.typing.specs.Pairs.{pairs_noted}
use Rattle.typing.proofs.pairs.note_pairs.Given as goal

abbrev pub invariant-loop-k : goal.invariant-loop-k
invariant-loop-k l = (pairs_noted l.count l.script l.first l.initial.after ≡ pairs_noted (l.count - l.k) l.script (l.first + 2 * l.k) l.after)
    × (pairs_from l.script l.count l.k (l.first + 2 * l.k) ≡ true)
