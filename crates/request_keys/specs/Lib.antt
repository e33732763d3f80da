pub mod Keys
pub mod Requests
