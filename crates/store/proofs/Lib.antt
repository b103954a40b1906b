pub mod ControlStates
pub mod BindLaws
pub mod FillLaws
pub mod CanonicalLaws
pub mod GraphLaws
