pub mod OnlyNamed
pub mod Filters
pub mod SeekLaws
pub mod PartLaws
