use Rattle.query.proofs.eval.+eval_query.Given as goal

abbrev pub decreases-eval_query : goal.decreases-eval_query
decreases-eval_query l = l.left
