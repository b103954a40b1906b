use Rattle.query.proofs.eval.+eval_cond.Given as goal

abbrev pub decreases-eval_cond : goal.decreases-eval_cond
decreases-eval_cond l = l.left
