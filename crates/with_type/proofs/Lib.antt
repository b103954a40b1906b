pub mod TypeNoted
pub mod TypeWritten
pub mod WithTypeLaws
