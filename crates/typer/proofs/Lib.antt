pub mod TyperLaws
