pub mod Asking
pub mod Lines
