-- By the length of the report, and else as the page is answered.
use Rattle.lengths.proofs.BufferLaws.{width_is}
use Rattle.byte_calls.proofs.ByteLaws.{schema-length, schema-done}
use mathlib.Core.Path.{ap}
use mathlib.Core.Bool.{not}
use Rattle.byte_calls.proofs.schema.Goals as goal

pub returns-then-not-schema_fits : goal.returns-then-not-schema_fits
returns-then-not-schema_fits c = schema-length _ _ _ c.schema_fits.ensures (ap not c.if-not-schema_fits.true) c.number.ensures

pub after_schema-requires : goal.after_schema-requires
after_schema-requires c =
    width_is c.schema_fits.ensures (ap not c.if-not-schema_fits.false)

pub returns : goal.returns
returns c =
    schema-done _ _ _ c.schema_fits.ensures (ap not c.if-not-schema_fits.false) c.gather-answer.ensures c.after_schema.ensures.report_after c.after_schema.ensures.value
