use Rattle.reader.proofs.script.+read_script.Given as goal

abbrev pub decreases-read_script : goal.decreases-read_script
decreases-read_script l = l.left
