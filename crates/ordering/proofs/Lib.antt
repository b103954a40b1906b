pub mod Others
pub mod Page
pub mod Gathering
