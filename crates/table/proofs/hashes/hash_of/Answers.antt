-- `table::hashes::hash_of` meets its contract. The loop keeps the sum so far and that of what is left equal to the whole.
use Prim.Native.Nat.{◌*◌}
use native.Mathlib.Omega.{arith}
use Rattle.table.specs.Hashes.{slot_words}
use Rattle.table.proofs.HashLaws.{hash-start, times-low, hash-next, hash-end}
use Rattle.table.proofs.hashes.hash_of.Goals as goal

pub loop-at-init : goal.loop-at-init
loop-at-init c = hash-start _

pub overflow_mul-sum : goal.overflow_mul-sum
overflow_mul-sum c = omega (arith, times-low c.word_at.result c.loop-at.at c.word_at.ensures.1 c.loop-at-test.true)

pub overflow_add-sum-in-loop-at : goal.overflow_add-sum-in-loop-at
overflow_add-sum-in-loop-at c =
    omega (arith, times-low c.word_at.result c.loop-at.at c.word_at.ensures.1 c.loop-at-test.true, c.loop-at.invariant.low, c.loop-at-test.true)

pub loop-at-preserved : goal.loop-at-preserved
loop-at-preserved c = hash-next _ _ _ c.loop-at.invariant c.loop-at-test.true _ c.word_at.ensures.1 c.word_at.ensures.0

pub overflow_mul-last : goal.overflow_mul-last
overflow_mul-last c = omega (arith, c.index-last.ensures, c.type_inv.slot (2 * slot_words))

pub overflow_add-whole : goal.overflow_add-whole
overflow_add-whole c =
    omega (arith, c.index-last.ensures, c.type_inv.slot (2 * slot_words), c.loop-at.invariant.low, c.loop-at.invariant.place)

pub returns : goal.returns
returns c = hash-end _ _ _ c.loop-at.invariant c.loop-at-test.false c.index-last.ensures
