pub mod StepLaws
pub mod TopLaws
