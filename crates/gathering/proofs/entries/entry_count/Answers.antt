-- `gathering::entries::entry_count` meets its contract. Those before the place are counted.
use native.Mathlib.Omega.{arith}
use Rattle.gathering.proofs.EntryLaws.{counting-first, counting-next, counting-end}
use Rattle.gathering.proofs.entries.entry_count.Goals as goal

pub loop-i-init : goal.loop-i-init
loop-i-init c = (omega arith, counting-first _)

pub overflow_add-entries : goal.overflow_add-entries
overflow_add-entries c =
    omega (arith, c.one_for-entries.ensures.1, c.loop-i.invariant.0, c.requires)

pub loop-i-preserved : goal.loop-i-preserved
loop-i-preserved c =
    (omega (arith, c.one_for-entries.ensures.1, c.loop-i.invariant.0), counting-next _ _ _ c.loop-i.invariant.1 c.loop-i-test.true c.one_for-entries.ensures.0)

pub returns : goal.returns
returns c = record { by_index = counting-end _ _ _ c.loop-i.invariant.1 (omega arith); upper_bound = omega (arith, c.loop-i.invariant.0) }
