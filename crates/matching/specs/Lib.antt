pub mod Matching
pub mod Ranges
