-- `control::last_sound` meets its contract.
use native.Mathlib.Omega.{arith}
use mathlib.Core.Path.{◌≡◌}
use borrow.Author.Rules.{rules}
use lib.ListN.{length}
use Rattle.laws.proofs.Records.{script-inside}
use Rattle.scope.proofs.BindLaws.{pairs-at, few-pairs}
use Rattle.control.proofs.BindingLaws.{tuple-tested}
use Rattle.control.proofs.StackLaws.{last-idle, last-other, last-once, last-each}
use Rattle.control.proofs.last_sound.Goals as goal

pub returns-then-not-started : goal.returns-then-not-started
returns-then-not-started c = last-idle _ _ _ _ c.requires c.if-not-started.true

pub bounds-script-at : goal.bounds-script-at
bounds-script-at c = script-inside _ _ _ _ c.requires

pub returns-then-script-at-ne115 : goal.returns-then-script-at-ne115
returns-then-script-at-ne115 c = last-other _ _ _ _ c.requires c.if-script-at-ne115.true

pub bounds-script-at-2 : goal.bounds-script-at-2
bounds-script-at-2 c = let p = pairs-at _ _ _ _ c.requires c.if-script-at-ne115.false in omega (arith, p.room)

pub returns-then-script-at-ne1 : goal.returns-then-script-at-ne1
returns-then-script-at-ne1 c = last-once _ _ _ _ c.requires c.if-script-at-ne1.true

pub bounds-script-at-3 : goal.bounds-script-at-3
bounds-script-at-3 c = let p = pairs-at _ _ _ _ c.requires c.if-script-at-ne115.false in omega (arith, p.room)

pub overflow_cast-n : goal.overflow_cast-n
overflow_cast-n c = let p = few-pairs (pairs-at _ _ _ _ c.requires c.if-script-at-ne115.false) in omega (arith, p)

pub tuple_fits-requires : goal.tuple_fits-requires
tuple_fits-requires c = few-pairs (pairs-at _ _ _ _ c.requires c.if-script-at-ne115.false)

pub returns : goal.returns
returns c =
    let l : length c.args.item.last ≡ 4 = search rules in
    let few = few-pairs (pairs-at _ _ _ _ c.requires c.if-script-at-ne115.false) in
    last-each _ _ _ _ c.requires c.if-not-started.false c.if-script-at-ne115.false c.if-script-at-ne1.false
    (tuple-tested c.args.count _ c.args.item.last l few c.tuple_fits.ensures)
