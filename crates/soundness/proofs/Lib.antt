pub mod BeginLaws
pub mod LookLaws
pub mod Clauses
