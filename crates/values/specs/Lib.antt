pub mod Meaning
pub mod NumberKinds
pub mod Means
