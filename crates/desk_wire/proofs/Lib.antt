pub mod FrontLemmas
pub mod GainLemmas
pub mod MadeLemmas
pub mod MessageLemmas
mod OrderLemmas
mod PullLemmas
mod PushLemmas
pub mod SeenLemmas
mod TradeLemmas
