pub mod Seeking
pub mod Parts
