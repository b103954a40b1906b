pub mod SuggestLaws
pub mod DocumentRow
