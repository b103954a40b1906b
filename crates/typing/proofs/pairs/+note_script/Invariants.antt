use Rattle.typing.proofs.pairs.+note_script.Given as goal

abbrev pub decreases-note_script : goal.decreases-note_script
decreases-note_script l = l.left
