-- The count, or the report as it was.
use mathlib.Core.Path.{ap, ◌∙◌}
use Rattle.definitions.specs.Bytes.{little_bytes}
use Rattle.reports.proofs.ReportLaws.{count-refused, counted}
use Rattle.reports.proofs.write_count_report.Goals as goal

pub returns-in_default : goal.returns-in_default
returns-in_default c = count-refused _ c.in_default.is

pub returns : goal.returns
returns c =
    counted _ c.in-Ok.is (c.write_number.ensures ∙ ap (λ k. little_bytes k c.in-Ok.count) c.requires)
