use Rattle.reader.proofs.script.+read_query.Given as goal

abbrev pub decreases-read_query : goal.decreases-read_query
decreases-read_query l = l.left
