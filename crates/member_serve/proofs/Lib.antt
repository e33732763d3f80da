pub mod HostLemmas
pub mod WordLemmas
