pub mod Faults
pub mod Hearing
pub mod Inside
pub mod Lines
pub mod Standing
pub mod Turns
pub mod Wired
