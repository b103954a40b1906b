pub mod Sorting
pub mod Bytewise
