pub mod Outcomes
pub mod Patterns
pub mod CodeLaws
pub mod FixedScan
pub mod EvalLaws
pub mod MayLaws
pub mod TermLaws
pub mod Operators
