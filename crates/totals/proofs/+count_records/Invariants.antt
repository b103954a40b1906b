use Rattle.totals.proofs.+count_records.Given as goal

abbrev pub decreases-count_records : goal.decreases-count_records
decreases-count_records l = l.left
