-- Read FieldLaws first: a field's text from an offset on; then RangeLaws, or PatternLaws and then PatternRows.
pub mod Booleans
pub mod FieldLaws
mod RangeLaws
mod PatternLaws
mod PatternRows
