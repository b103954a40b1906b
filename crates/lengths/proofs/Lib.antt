-- TableLaws first: BufferLaws rest on them.
pub mod TableLaws
pub mod BufferLaws
