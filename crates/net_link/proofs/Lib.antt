pub mod PieceLemmas
pub mod PrefixLemmas
pub mod EventLemmas
pub mod SeenLemmas
pub mod ScriptLemmas
pub mod KeepsLemmas
pub mod OnlyLemmas
pub mod GainLemmas
mod Worked
