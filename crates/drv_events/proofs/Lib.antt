pub mod HearingLemmas
pub mod RunLemmas
