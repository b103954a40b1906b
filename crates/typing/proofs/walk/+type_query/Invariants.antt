use Rattle.typing.proofs.walk.+type_query.Given as goal

abbrev pub decreases-type_query : goal.decreases-type_query
decreases-type_query l = l.left
