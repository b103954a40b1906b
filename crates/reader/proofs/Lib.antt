-- In this order: the pairs of a block, then the records that hold them.
pub mod PairLaws
pub mod ReadLaws
