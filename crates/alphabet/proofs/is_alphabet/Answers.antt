-- `alphabet::is_alphabet` meets its contract: ranks that are met once each, 95 in all, are all ranks. Assumes nothing.
use native.Mathlib.Omega.{arith}
use Rattle.alphabet.proofs.Pass.{pass-start, pass-ends, pass-large, pass-twice, pass-turn}
use Rattle.alphabet.proofs.is_alphabet.Goals as goal

pub loop-number-init : goal.loop-number-init
loop-number-init c = pass-start _ _ tt (omega arith)

pub overflow_cast-rank : goal.overflow_cast-rank
overflow_cast-rank c = omega (arith, c.type_inv.ranks c.loop-number.number-index)

pub returns-then-rank-ge-RANKS_WIDTH : goal.returns-then-rank-ge-RANKS_WIDTH
returns-then-rank-ge-RANKS_WIDTH c = pass-large _ c.requires _ _ c.loop-number.invariant (omega arith) (omega arith)

pub returns-then-met-rank : goal.returns-then-met-rank
returns-then-met-rank c = pass-twice _ c.requires _ _ c.loop-number.invariant (omega arith) (omega arith) c.if-met-rank.true

pub loop-number-preserved : goal.loop-number-preserved
loop-number-preserved c =
    pass-turn _ c.requires _ _ c.loop-number.invariant (omega arith) (omega arith) c.if-met-rank.false

pub returns : goal.returns
returns c = pass-ends _ c.requires _ _ c.loop-number.invariant (omega arith)
