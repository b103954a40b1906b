pub mod Room
pub mod Noted
