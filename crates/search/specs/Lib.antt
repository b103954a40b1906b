pub mod Ready
pub mod Finding
pub mod Trying
