use Rattle.typing.proofs.walk.+type_expr.Given as goal

abbrev pub decreases-type_expr : goal.decreases-type_expr
decreases-type_expr l = l.left
