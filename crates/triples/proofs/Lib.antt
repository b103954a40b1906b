pub mod Merging
pub mod Bytewise
pub mod Rising
pub mod Images
pub mod ReadBack
pub mod Pages
pub mod Graphs
