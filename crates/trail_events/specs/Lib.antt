pub mod Alone
pub mod InEntry
pub mod Telling
pub mod Told
