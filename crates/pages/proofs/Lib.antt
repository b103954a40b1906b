pub mod TermLaws
pub mod TakeLaws
pub mod DoneLaws
