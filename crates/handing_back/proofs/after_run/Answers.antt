-- By what its callees ensure.
use Rattle.handing_back.proofs.after_run.Goals as goal

pub returns : goal.returns
returns c = record { value = c.answer_number-number.ensures; saved_after = c.hand_back.ensures; report_after = c.write_run_report.ensures }
