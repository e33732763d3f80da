pub mod Inside
pub mod Takes
pub mod Choices
pub mod Moves
