-- In this order: a line by what trying gives, then the lines of tuples.
pub mod LineLaws
pub mod TupleLaws
