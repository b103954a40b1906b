pub mod TypeLaws
pub mod BindingLaws
pub mod StackLaws
pub mod ControlLaws
