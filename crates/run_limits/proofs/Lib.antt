pub mod ClockLaws
