pub mod Shared
pub mod Holds
pub mod Closed
