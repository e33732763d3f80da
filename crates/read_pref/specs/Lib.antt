pub mod Modes
pub mod Preferences
