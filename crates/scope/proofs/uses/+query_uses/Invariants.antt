use Rattle.scope.proofs.uses.+query_uses.Given as goal

abbrev pub decreases-query_uses : goal.decreases-query_uses
decreases-query_uses l = l.left
