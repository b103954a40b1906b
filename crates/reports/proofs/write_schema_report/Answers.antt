-- Both numbers are put one after the other, or the report is as it was.
use native.Mathlib.Omega.{arith}
use mathlib.Core.Path.{ap, ◌∙◌}
use Rattle.definitions.specs.Bytes.{little_bytes}
use Rattle.laws.proofs.Writing.{put-none, put-part, put_all}
use Rattle.reports.proofs.ReportLaws.{schema-refused, schema-told}
use Rattle.reports.proofs.write_schema_report.Goals as goal

pub returns-in_default : goal.returns-in_default
returns-in_default c = schema-refused _ c.in_default.is

pub returns : goal.returns
returns c =
    let first = put-part {old = c.args.out.now} c.write_number.new.out 4 put-none (omega arith) (omega (arith, c.requires)) c.write_number.auto.out in
    let entries = c.write_number.ensures ∙ ap (λ k. little_bytes k c.in-Ok.counts.entries) c.write_number-arg-1.given.2 in
    let left = c.write_number-2.ensures ∙ ap (λ k. little_bytes k c.in-Ok.counts.left_out) c.write_number-arg-2-1.given.2 in
    put_all (put-part c.write_number-2.new.out 8 first (omega arith) (omega (arith, c.requires)) c.write_number-2.auto.out) (omega (arith, c.requires))
    ∙ schema-told _ c.in-Ok.is entries left
