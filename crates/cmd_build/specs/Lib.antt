pub mod Batches
pub mod Commands
pub mod Handshakes
pub mod Ops
pub mod Sizes
