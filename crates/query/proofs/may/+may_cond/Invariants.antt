use Rattle.query.proofs.may.+may_cond.Given as goal

abbrev pub decreases-may_cond : goal.decreases-may_cond
decreases-may_cond l = l.left
