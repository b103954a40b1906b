pub mod Put
pub mod Union
