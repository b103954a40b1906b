pub mod SuggestReport
