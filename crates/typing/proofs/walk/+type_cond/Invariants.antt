use Rattle.typing.proofs.walk.+type_cond.Given as goal

abbrev pub decreases-type_cond : goal.decreases-type_cond
decreases-type_cond l = l.left
