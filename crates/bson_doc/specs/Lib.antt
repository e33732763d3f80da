pub mod Documents
pub mod Ids
pub mod Names
pub mod Readings
pub mod Room
pub mod Steps
pub mod formers
pub mod wire
