mod CandidateLemmas
mod CheckedLemmas
mod KeptLemmas
mod LookLemmas
mod NumberLemmas
