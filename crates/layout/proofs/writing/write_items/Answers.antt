-- The loop: the items before `i` are written, in the bytes before `at`.
use Prim.Native.Nat.{◌+◌}
use native.Mathlib.Omega.{arith}
use mathlib.Core.Path.{◌≡◌, ◌∙◌}
use borrow.Author.Rules.{rules}
use lib.ListN.{length}
use Rattle.definitions.specs.Saved.{no_item}
use Rattle.definitions.specs.Limits.{item_width}
use Rattle.definitions.specs.Exports.{item_bytes}
use Rattle.laws.proofs.Writing.{put-none, put-joined, put-joined-all}
use Rattle.layout.proofs.JoinedBytes.{items-joined}
use Rattle.layout.proofs.writing.write_items.Goals as goal

pub loop-item-init : goal.loop-item-init
loop-item-init c = (search rules, search rules, put-none)

pub loop-item-preserved : goal.loop-item-preserved
loop-item-preserved c =
    let items-length : length c.args.items ≡ 24 = search rules in
    let n = items-length in
    let end = c.loop-item.«at» + item_width in
    let p =
    put-joined item_bytes c.args.items c.loop-item.item-index no_item c.write_item.new.out end c.loop-item.invariant.2
    (omega (arith, n)) (omega arith) (omega arith) c.write_item.ensures c.write_item.auto.out in
    (omega arith, search rules, p)

pub returns : goal.returns
returns c =
    let items-length : length c.args.items ≡ 24 = search rules in
    let n = items-length in
    put-joined-all item_bytes c.args.items c.loop-item.item-index c.loop-item.invariant.2 (omega (arith, n)) (omega arith)
    ∙ items-joined c.args.items
