pub mod MeanLemmas
pub mod OfferLemmas
