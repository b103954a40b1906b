pub mod Hashes
pub mod Table
