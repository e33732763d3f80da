pub mod Hearing
pub mod Runs
