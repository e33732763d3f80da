pub mod Documents
pub mod Flaws
pub mod Reading
