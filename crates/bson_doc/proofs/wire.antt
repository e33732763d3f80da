pub mod Texts
pub mod Fields
pub mod PlainValues
pub mod Documents
pub mod Outermost
pub mod Ahead
pub mod Meanings
