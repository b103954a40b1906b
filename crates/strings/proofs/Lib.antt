-- Read LineLaws and TextLaws before TextOfLaws.
mod TestLaws
mod LineLaws
pub mod TextLaws
mod TextOfLaws
