pub mod Demands
pub mod UnionFind
pub mod Tables
pub mod Infer
pub mod Codes
pub mod Walk
pub mod Answers
