pub mod Limits
pub mod Kinds
pub mod Spelling
pub mod Spelled
pub mod Reading
pub mod Written
pub mod Writes
