use Rattle.alphabet.proofs.Pass.{Passed}
use Rattle.alphabet.proofs.is_alphabet.Given as goal

abbrev pub invariant-loop-number : goal.invariant-loop-number
invariant-loop-number l = Passed l.ranks l.met l.number-index
