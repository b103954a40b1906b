pub mod Lent
pub mod Buffers
