pub mod SignedLaws
pub mod KindLaws
pub mod ArithmeticLaws
