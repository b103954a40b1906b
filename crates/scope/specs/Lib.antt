pub mod Uses
pub mod Bindings
