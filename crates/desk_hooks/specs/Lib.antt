pub mod State
pub mod Hearing
pub mod Telling
pub mod Calls
