pub mod FlagLemmas
pub mod NextLemmas
