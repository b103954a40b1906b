use Prim.Native.Nat.{◌+◌, ◌*◌, ◌-◌, ◌<◌}
use Rattle.definitions.specs.Tree.{Query}
use Rattle.query.specs.StoreLent.{rows_of}
use Rattle.seeking.specs.Seeking.{SeekOf}
use Rattle.seeking.specs.Parts.{PartsOf}
use Rattle.seeking.proofs.PartLaws.{number_weight}
use Rattle.seeking.proofs.by_parts.seek_parts.Given as goal

abbrev pub invariant-loop-agreed : goal.invariant-loop-agreed
invariant-loop-agreed l =
    (0 < l.n → l.i < l.n) × ((q : Query) → PartsOf l.view.script.now l.view.context.loaded l.parts q → SeekOf l.view.ranks.now l.view.table.now l.known l.view.context (rows_of l.view.quads.now l.view.context) l.v l.lo l.found q)

abbrev pub decreases-loop-agreed : goal.decreases-loop-agreed
decreases-loop-agreed l = number_weight * (l.count - l.found) + (l.n - l.agreed)
