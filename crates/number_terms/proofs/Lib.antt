pub mod AmountLaws
mod TermLaws
