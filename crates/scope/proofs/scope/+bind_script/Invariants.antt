use Rattle.scope.proofs.scope.+bind_script.Given as goal

abbrev pub decreases-bind_script : goal.decreases-bind_script
decreases-bind_script l = l.left
