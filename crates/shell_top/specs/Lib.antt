pub mod Going
pub mod Report
pub mod Run
pub mod Summary
pub mod Soak
