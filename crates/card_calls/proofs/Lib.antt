pub mod TotalLaws
pub mod SuggestLaws
