use Rattle.query.proofs.eval.+eval_expr.Given as goal

abbrev pub decreases-eval_expr : goal.decreases-eval_expr
decreases-eval_expr l = l.left
