use native.Mathlib.Omega.{arith}
use borrow.Author.Rules.{rules}
use mathlib.Core.Path.{◌≡◌, ap}
use lib.ListN.{length, replicate}
use Rattle.definitions.specs.Bytes.{filled}
use Rattle.definitions.specs.Saved.{zero_item, no_item}
use Rattle.definitions.specs.declared.SavedItem.{SavedItem}
use Rattle.store.specs.Canonical.{clean_item, clean_items}
use Rattle.store.proofs.FillLaws.{made-next, made_all}
use Rattle.store.proofs.canonical.clean_items.Goals as goal

pub loop-i-init : goal.loop-i-init
unfolding filled
loop-i-init c = ap (λ (x : SavedItem). replicate 24 x) c.fresh_item-empty.ensures

pub loop-i-preserved : goal.loop-i-preserved
loop-i-preserved c =
    let l : length c.args.items ≡ 24 = search rules in
    made-next (clean_item c.args.script.now) zero_item c.args.items 24 c.loop-i.i no_item (omega arith) (omega arith) _ c.loop-i.invariant _
    c.clean_item.ensures

pub returns : goal.returns
unfolding clean_items
returns c =
    made_all (clean_item c.args.script.now) zero_item c.args.items 24 c.loop-i.i c.args.height _ c.loop-i.invariant (omega arith)
