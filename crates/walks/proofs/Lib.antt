pub mod NextLaws
pub mod RootLaws
