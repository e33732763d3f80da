pub mod Ends
pub mod Checks
pub mod Entries
pub mod Inside
pub mod Laws
