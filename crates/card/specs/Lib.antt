pub mod Check
pub mod Leasts
