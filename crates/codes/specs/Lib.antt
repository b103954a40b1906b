pub mod Family
pub mod TypeCodes
