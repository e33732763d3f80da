pub mod GrammarLemmas
pub mod HostLemmas
pub mod HostOrder
