pub mod PublishLaws
