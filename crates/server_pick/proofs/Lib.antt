mod ObjectLemmas
pub mod Lists
pub mod SieveLemmas
pub mod MapLemmas
pub mod AskLemmas
pub mod ChoiceLemmas
pub mod PickLemmas
pub mod LawLemmas
