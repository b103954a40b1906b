-- Read ListLaws first: records one after the other; then SchemaLaws and EntryLaws for a schema's entries, NumberingLaws for
-- the terms that join a table.
pub mod ListLaws
pub mod SchemaLaws
pub mod EntryLaws
pub mod NumberingLaws
