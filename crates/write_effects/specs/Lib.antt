pub mod Effects
pub mod Each
