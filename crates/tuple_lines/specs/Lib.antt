pub mod TriedLine
