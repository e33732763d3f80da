mod StreamLemmas
mod MoveLemmas
mod PoolLemmas
