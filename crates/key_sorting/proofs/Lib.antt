pub mod Same
pub mod Halves
pub mod CopyLaws
