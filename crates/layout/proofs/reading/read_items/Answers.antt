-- The loop: the items before `i` are read, and zeros stand in the places after them.
use native.Mathlib.Omega.{arith}
use mathlib.Core.Path.{◌≡◌, ap, sym, ◌∙◌}
use lib.ListN.{replicate}
use Rattle.definitions.specs.Limits.{items_offset}
use Rattle.definitions.specs.Exports.{items_from}
use Rattle.laws.proofs.Saved.{items-none}
use Rattle.layout.proofs.Items.{items-next}
use Rattle.layout.proofs.reading.read_items.Goals as goal

pub loop-i-init : goal.loop-i-init
loop-i-init c =
    (ap (replicate 24) c.zero_item-empty.ensures ∙ sym (items-none c.args.b.now 24 items_offset))

pub loop-i-preserved : goal.loop-i-preserved
loop-i-preserved c =
    (items-next c.args.b.now _ _ 24 _ items_offset (omega arith) c.loop-i.invariant c.read_item.ensures)

pub returns : goal.returns
returns c =
    let e : c.loop-i.i ≡ c.args.height = omega arith in
    c.loop-i.invariant ∙ ap (λ n. items_from 24 n c.args.b.now items_offset) e
