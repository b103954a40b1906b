-- `gathering::gather` meets its contract: a refusal, or the entries written.
use native.Mathlib.Omega.{arith}
use Rattle.definitions.specs.Gathering.{askings}
use Rattle.gathering.proofs.GatherLaws.{wrong-length, long-page, bad-page, read, too_many, gathers}
use Rattle.gathering.proofs.gather.Goals as goal

pub returns-then-schema-ne-SCHEMA_WIDTH : goal.returns-then-schema-ne-SCHEMA_WIDTH
returns-then-schema-ne-SCHEMA_WIDTH c = wrong-length _ _ c.if-schema-ne-SCHEMA_WIDTH.true

pub returns-then-page-gt-PAGE_LIMIT : goal.returns-then-page-gt-PAGE_LIMIT
returns-then-page-gt-PAGE_LIMIT c = long-page _ _ c.if-schema-ne-SCHEMA_WIDTH.false c.if-page-gt-PAGE_LIMIT.true

pub returns-then-not-noting : goal.returns-then-not-noting
returns-then-not-noting c =
    bad-page _ _ c.if-schema-ne-SCHEMA_WIDTH.false c.if-page-gt-PAGE_LIMIT.false c.subjects_of-noting.ensures.good_value c.if-not-noting.true

pub entry_count-entries-requires : goal.entry_count-entries-requires
entry_count-entries-requires c = c.subjects_of-noting.ensures.count_le_subject_limit

pub returns-then-entries-gt-ENTRY_LIMIT : goal.returns-then-entries-gt-ENTRY_LIMIT
returns-then-entries-gt-ENTRY_LIMIT c =
    let p = read c.args.page.now c.args.schema.now c.if-schema-ne-SCHEMA_WIDTH.false c.if-page-gt-PAGE_LIMIT.false c.subjects_of-noting.ensures.good_value c.if-not-noting.false in
    too_many _ _ c.if-schema-ne-SCHEMA_WIDTH.false c.if-page-gt-PAGE_LIMIT.false c.subjects_of-noting.ensures.good_value c.if-not-noting.false (c.entry_count-entries.ensures.by_index _ _ (c.subjects_of-noting.ensures.noted p.0 p.1))
    c.if-entries-gt-ENTRY_LIMIT.true

pub put_entries-requires : goal.put_entries-requires
put_entries-requires c =
    let p = read c.args.page.now c.args.schema.now c.if-schema-ne-SCHEMA_WIDTH.false c.if-page-gt-PAGE_LIMIT.false c.subjects_of-noting.ensures.good_value c.if-not-noting.false in
    let h = c.subjects_of-noting.ensures.noted p.0 p.1 in record { count_le_subject_limit = c.subjects_of-noting.ensures.count_le_subject_limit; schema_len = c.if-schema-ne-SCHEMA_WIDTH.false; noted = (askings p.0, h, omega (arith, c.entry_count-entries.ensures.by_index _ _ h, c.if-entries-gt-ENTRY_LIMIT.false)) }

pub overflow_sub-left_out : goal.overflow_sub-left_out
overflow_sub-left_out c = omega (arith, c.entry_count-entries.ensures.upper_bound)

pub overflow_cast-result : goal.overflow_cast-result
overflow_cast-result c = omega (arith, c.if-entries-gt-ENTRY_LIMIT.false)

pub overflow_cast-result-2 : goal.overflow_cast-result-2
overflow_cast-result-2 c = omega (arith, c.subjects_of-noting.ensures.count_le_subject_limit)

pub returns : goal.returns
returns c =
    let p = read c.args.page.now c.args.schema.now c.if-schema-ne-SCHEMA_WIDTH.false c.if-page-gt-PAGE_LIMIT.false c.subjects_of-noting.ensures.good_value c.if-not-noting.false in
    let h = c.subjects_of-noting.ensures.noted p.0 p.1 in
    gathers _ _ c.if-schema-ne-SCHEMA_WIDTH.false c.if-page-gt-PAGE_LIMIT.false c.subjects_of-noting.ensures.good_value c.if-not-noting.false (c.entry_count-entries.ensures.by_index _ _ h) c.if-entries-gt-ENTRY_LIMIT.false _ h (c.put_entries.ensures _ h)
