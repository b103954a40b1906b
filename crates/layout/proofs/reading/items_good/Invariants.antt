use Prim.Native.Nat.{◌-◌, ◌+◌, ◌*◌}
use mathlib.Core.Path.{◌≡◌}
use Rattle.definitions.specs.Limits.{items_offset, item_width}
use Rattle.definitions.specs.Exports.{items_good}
use Rattle.layout.proofs.reading.items_good.Given as goal

abbrev pub invariant-loop-i : goal.invariant-loop-i
invariant-loop-i l = items_good l.height l.b items_offset ≡ items_good (l.height - l.i) l.b (items_offset + item_width * l.i)
