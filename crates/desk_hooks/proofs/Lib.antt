mod FrontLemmas
mod HearingLemmas
mod TellingLemmas
