-- `search::types::past_blocks` meets its contract. The loop's invariant: from i on gives what the whole gives. Assumes nothing.
use native.Mathlib.Omega.{arith}
use mathlib.Core.Path.{refl}
use Rattle.search.proofs.TypeLaws.{skip_block}
use Rattle.search.proofs.types.past_blocks.Goals as goal

pub loop-i-init : goal.loop-i-init
loop-i-init c = (c.requires.from_le_count, refl)

pub any_under-requires : goal.any_under-requires
any_under-requires c = omega (arith, c.requires.count_in_bounds, c.loop-i-test.true, c.loop-i.invariant.0)

pub returns-then-any_under : goal.returns-then-any_under
returns-then-any_under c = c.loop-i.invariant

pub loop-i-smaller : goal.loop-i-smaller
loop-i-smaller c = omega (arith, c.loop-i-test.true)

pub loop-i-preserved : goal.loop-i-preserved
loop-i-preserved c =
    (omega (arith, c.loop-i-test.true, c.loop-i.invariant.0), skip_block _ _ _ _ _ c.loop-i.invariant.1 c.loop-i-test.true c.any_under.ensures c.if-any_under.false)

pub returns : goal.returns
returns c = c.loop-i.invariant
