pub mod EnteringLaws
