pub mod ListLemmas
pub mod SoundLemmas
pub mod BookLemmas
pub mod LawLemmas
pub mod NumberLemmas
pub mod EndingLemmas
