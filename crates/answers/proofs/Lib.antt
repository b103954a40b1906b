pub mod AnswerLaws
pub mod StartLaws
