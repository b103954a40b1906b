use Rattle.strings.proofs.line.+fraction.Given as goal

abbrev pub decreases-fraction : goal.decreases-fraction
decreases-fraction l = l.count
