pub mod ReportLaws
pub mod SavedLaws
pub mod NumberTold
