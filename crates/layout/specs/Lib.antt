pub mod ReadSaved
