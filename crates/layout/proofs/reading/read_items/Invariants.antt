use mathlib.Core.Path.{◌≡◌}
use Rattle.definitions.specs.Limits.{items_offset}
use Rattle.definitions.specs.Exports.{items_from}
use Rattle.layout.proofs.reading.read_items.Given as goal

abbrev pub invariant-loop-i : goal.invariant-loop-i
invariant-loop-i l = l.items ≡ items_from 24 l.i l.b items_offset
