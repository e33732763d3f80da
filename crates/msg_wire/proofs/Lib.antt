mod Answered
pub mod Asked
mod Behind
mod Bodies
mod ByPlaces
mod DocumentLists
pub mod Framings
mod Headers
mod Messages
pub mod Names
pub mod Partings
mod PlaceLemmas
mod Places
mod SectionLaws
mod SectionLoop
mod SequenceLaws
mod Sizes
pub mod Whole
