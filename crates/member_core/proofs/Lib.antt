pub mod Bits
pub mod Counts
mod DepthLemmas
mod Elections
pub mod Growth
pub mod IndexLemmas
pub mod MarkLemmas
mod OneWrite
pub mod PlaceLemmas
pub mod Runs
pub mod ShareLemmas
mod SizeLemmas
pub mod SmallReplies
pub mod Sounds
pub mod Stands
pub mod Steps
mod Worked
