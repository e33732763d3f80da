pub mod ParsedLemmas
pub mod LineLemmas
pub mod AnswerLemmas
pub mod DepthLemmas
pub mod TagLemmas
pub mod ReadLemmas
mod Worked
