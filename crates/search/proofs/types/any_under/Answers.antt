-- `search::types::any_under` meets its contract. The loop's invariant: what is found is what the terms so far have. Assumes nothing.
use native.Mathlib.Omega.{arith}
use Rattle.search.proofs.TypeLaws.{any_none, any-more, any-all}
use Rattle.search.proofs.types.any_under.Goals as goal

pub loop-i-init : goal.loop-i-init
loop-i-init c = (omega arith, any_none _ _ _)

pub overflow_add-from : goal.overflow_add-from
overflow_add-from c = omega (arith, c.requires)

pub bounds-leasts-from : goal.bounds-leasts-from
bounds-leasts-from c = omega (arith, c.requires)

pub loop-i-preserved : goal.loop-i-preserved
loop-i-preserved c = (omega arith, any-more _ _ _ _ _ c.loop-i.invariant.1 c.is_under-found.ensures)

pub returns : goal.returns
returns c = any-all _ _ _ _ _ _ c.loop-i.invariant.1 c.loop-i.invariant.0 c.loop-i-test.false
