-- MadeLaws says what values of plain data mean.
pub mod MadeLaws
