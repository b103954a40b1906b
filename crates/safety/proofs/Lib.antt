pub mod StepSound
pub mod RunSound
pub mod RunSteps
pub mod PageSound
