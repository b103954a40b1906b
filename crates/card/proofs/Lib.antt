pub mod Told
pub mod CardLaws
pub mod ScriptLaws
pub mod LeastLaws
pub mod ReadyLaws
pub mod CodedLaws
pub mod CheckLaws
pub mod RefusalNumbers
