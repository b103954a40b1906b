use Rattle.strings.proofs.line.+natural.Given as goal

abbrev pub decreases-natural : goal.decreases-natural
decreases-natural l = l.left
