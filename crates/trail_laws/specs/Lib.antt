pub mod Numbers
pub mod Waiting
pub mod Holding
pub mod Answers
