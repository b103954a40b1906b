use Rattle.scope.proofs.uses.+cond_uses.Given as goal

abbrev pub decreases-cond_uses : goal.decreases-cond_uses
decreases-cond_uses l = l.left
