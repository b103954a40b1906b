pub mod AskLaws
