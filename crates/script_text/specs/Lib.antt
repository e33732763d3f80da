pub mod Bounds
pub mod Lines
pub mod Members
pub mod Values
pub mod Reads
pub mod Commands
pub mod Scripts
pub mod Taken
