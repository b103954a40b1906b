pub mod Bare
pub mod Stack
pub mod Graphs
pub mod Canonical
