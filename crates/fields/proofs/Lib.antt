-- Read PartLaws and NumberLaws first, then SameLaws for equal records.
pub mod PartLaws
pub mod NumberLaws
pub mod SameLaws
