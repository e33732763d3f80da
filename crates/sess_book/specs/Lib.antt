pub mod Ids
pub mod Sessions
pub mod Entries
pub mod Inside
pub mod Answers
pub mod Laws
pub mod Ending
