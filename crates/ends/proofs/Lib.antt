pub mod ExtentLaws
pub mod EndLaws
