-- By what its callees ensure.
use Rattle.handing_back.proofs.after_suggest.Goals as goal

pub returns : goal.returns
returns c = record { value = c.answer_number.ensures; report_after = c.write_suggest_report.ensures }
