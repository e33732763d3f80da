mod AloneLemmas
mod PoolLemmas
pub mod ToldLemmas
