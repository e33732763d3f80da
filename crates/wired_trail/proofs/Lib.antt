mod CallLemmas
pub mod FaultLemmas
mod FitLemmas
mod FreeLemmas
pub mod HeardLemmas
mod KeptLemmas
mod LineLemmas
mod StreamLemmas
mod ToldLemmas
mod TurnLemmas
