pub mod Inputs
pub mod Loads
pub mod Told
pub mod Waits
