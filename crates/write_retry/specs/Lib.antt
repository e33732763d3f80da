pub mod Outcomes
pub mod Verdict
pub mod Machine
pub mod Inside
pub mod Histories
