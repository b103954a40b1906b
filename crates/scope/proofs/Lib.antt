-- In this order: the uses of variables, the pairs that bind and hide them, the whole script.
pub mod UseLaws
pub mod BindLaws
mod ScopeLaws
