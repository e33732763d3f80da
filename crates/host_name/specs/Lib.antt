pub mod Addresses
pub mod Grammar
pub mod Reading
