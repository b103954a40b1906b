use Rattle.scope.proofs.scope.+script_uses.Given as goal

abbrev pub decreases-script_uses : goal.decreases-script_uses
decreases-script_uses l = l.left
