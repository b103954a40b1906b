use Rattle.scope.proofs.uses.+expr_uses.Given as goal

abbrev pub decreases-expr_uses : goal.decreases-expr_uses
decreases-expr_uses l = l.left
