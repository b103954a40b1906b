-- `seeking::listing::parts_of` meets its contract. The loop's invariant: what is listed and what is pending are parts of the query. Assumes nothing.
use native.Mathlib.Omega.{arith}
use borrow.Author.Rules.{rules}
use Rattle.seeking.proofs.PartLaws.{part-inside, part-here, starts, taken-apart, goes_on, ends-within, listed-none, listed_more, listed-all}
use Rattle.seeking.proofs.listing.parts_of.Goals as goal

pub loop-pending-init : goal.loop-pending-init
loop-pending-init c = (omega arith, search rules, λ q m e. (listed-none _ _ q _, starts _ _ q e))

pub bounds-script-here : goal.bounds-script-here
bounds-script-here c =
    let (q, m, e) = c.requires.loads in
    part-inside _ _ (part-here _ _ q _ _ c.loop-pending-test.true (c.loop-pending.invariant.2 q m e).1)

pub bounds-script-here-else-splits : goal.bounds-script-here-else-splits
bounds-script-here-else-splits c =
    let (q, m, e) = c.requires.loads in
    part-inside _ _ (part-here _ _ q _ _ c.loop-pending-test.true (c.loop-pending.invariant.2 q m e).1)

pub loop-pending-preserved-then-splits : goal.loop-pending-preserved-then-splits
loop-pending-preserved-then-splits c =
    let k = c.splits.ensures c.if-splits.true in
    (omega (arith, k.1), c.loop-pending.invariant.1, λ q m e. ((c.loop-pending.invariant.2 q m e).0, taken-apart _ _ q _ _ c.loop-pending-test.true k.0 (c.loop-pending.invariant.2 q m e).1))

pub variables_in-requires : goal.variables_in-requires
variables_in-requires c =
    let (q, m, e) = c.requires.loads in
    let w = ends-within _ _ q _ c.args.view.now.ends_lent _ _ _ c.loop-pending-test.true (c.loop-pending.invariant.2 q m e).1 c.after-next.ensures in record { from_lt_to = w.0; to_in_bounds = w.1 }

pub loop-pending-preserved : goal.loop-pending-preserved
loop-pending-preserved c = (
  omega (arith, c.loop-pending.invariant.0, c.loop-pending-test.true),
  search rules,
  λ q m e. (
    listed_more _ _ q _ _ _ (omega (arith, c.loop-pending.invariant.0, c.loop-pending.invariant.1, c.loop-pending-test.true)) (c.loop-pending.invariant.2 q m e).0 (part-here _ _ q _ _ c.loop-pending-test.true (c.loop-pending.invariant.2 q m e).1),
    goes_on _ _ q _ c.args.view.now.ends_lent _ _ _ c.loop-pending-test.true (c.loop-pending.invariant.2 q m e).1 c.after-next.ensures,
  ),
)

pub returns : goal.returns
returns c = record { size_le_part_limit = (omega (arith, c.loop-pending.invariant.0), c.loop-pending.invariant.1); parts_of = λ q m e. listed-all _ _ q _ _ (c.loop-pending.invariant.2 q m e).0 }
