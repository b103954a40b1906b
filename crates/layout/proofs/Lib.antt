pub mod Words
pub mod Items
pub mod SavedTests
pub mod NumberBytes
pub mod JoinedBytes
pub mod ReadLaws
