-- The loop: the numbers before `i` are read.
use native.Mathlib.Omega.{arith}
use borrow.Author.Rules.{rules}
use Rattle.definitions.specs.Exports.{words_from}
use Rattle.layout.proofs.Words.{words-next, words-all}
use Rattle.layout.proofs.reading.read_words.Goals as goal

pub loop-i-init : goal.loop-i-init
unfolding words_from
loop-i-init c = search rules

pub loop-i-preserved : goal.loop-i-preserved
loop-i-preserved c =
    (search rules, words-next _ _ _ _ _ _ (omega arith) c.number_at.ensures c.loop-i.invariant.1)

pub returns : goal.returns
returns c = words-all _ _ _ _ _ (omega arith) c.loop-i.invariant.1
