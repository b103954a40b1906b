-- In this order: the written types that the pairs say, then the least types of a load's terms.
pub mod PairLaws
pub mod Constants
