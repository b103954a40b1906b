use Prim.Native.Nat.{◌*◌}
use mathlib.Core.Path.{◌≡◌}
use lib.ListN.{length, take}
use Rattle.definitions.specs.Limits.{item_width}
use Rattle.definitions.specs.Exports.{item_bytes}
use Rattle.laws.proofs.Writing.{Put, joined}
use Rattle.layout.proofs.writing.write_items.Given as goal

abbrev pub invariant-loop-item : goal.invariant-loop-item
invariant-loop-item l =
    (l.at ≡ item_width * l.item-index) × (length l.out ≡ length l.initial.out) × Put l.initial.out l.out (joined item_bytes (take l.item-index l.item-items)) l.at
