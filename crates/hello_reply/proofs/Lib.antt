pub mod EachLemmas
pub mod ListedLemmas
