pub mod ChoiceLemmas
pub mod CutLemmas
pub mod EachLemmas
pub mod EscapeLemmas
pub mod ReadingLemmas
pub mod SeedLemmas
pub mod ValueLemmas
