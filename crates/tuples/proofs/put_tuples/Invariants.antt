use Prim.Native.Nat.{◌*◌, ◌≤◌}
use mathlib.Core.Path.{◌≡◌}
use lib.ListN.{length}
use Rattle.acts.specs.Steps.{Top}
use Rattle.answers.specs.Lends.{LendsIn}
use Rattle.tuple_lines.specs.TriedLine.{line_room}
use Rattle.tuples.specs.Lines.{TuplesWritten}
use Rattle.tuples.proofs.put_tuples.Given as goal

abbrev pub invariant-loop-k : goal.invariant-loop-k
invariant-loop-k l =
    (l.end ≤ line_room * l.k) × (length l.out ≡ length l.initial.out)
    × ((w : LendsIn l.view l.run) (t : Top w.here l.at) → TuplesWritten w t l.k l.tuples l.initial.out l.out l.end)
