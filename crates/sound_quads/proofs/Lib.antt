pub mod StoreLaws
pub mod QuadLaws
pub mod TermTests
