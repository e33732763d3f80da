pub mod DepthLemmas
pub mod SizeLemmas
pub mod FaultLemmas
pub mod WriteLemmas
