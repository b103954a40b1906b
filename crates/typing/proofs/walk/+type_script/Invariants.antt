use Rattle.typing.proofs.walk.+type_script.Given as goal

abbrev pub decreases-type_script : goal.decreases-type_script
decreases-type_script l = l.left
