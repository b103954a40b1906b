-- By what its callees ensure.
use Rattle.handing_back.proofs.after_schema.Goals as goal

pub returns : goal.returns
returns c = record { value = c.answer_number.ensures; report_after = c.write_schema_report.ensures }
