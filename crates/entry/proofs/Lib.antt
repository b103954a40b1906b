-- Halves first: refusal 10 as the store's test and the control's; then EntryLaws, a law for each way through the code.
pub mod Halves
pub mod EntryLaws
-- and what several calls conclude from having passed
pub mod PassedLaws
