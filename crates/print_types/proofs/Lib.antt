-- In this order: the parts of the input, and last all that is printed.
pub mod PartLaws
pub mod Printed
