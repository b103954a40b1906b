pub mod EntryLaws
pub mod GatherLaws
