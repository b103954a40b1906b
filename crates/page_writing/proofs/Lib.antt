pub mod WritingLaws
pub mod StoreLaws
