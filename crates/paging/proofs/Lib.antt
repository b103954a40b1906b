pub mod PageLaws
pub mod TakeLaws
