pub mod Scan
pub mod Codes
