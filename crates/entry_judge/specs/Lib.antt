pub mod Judge
pub mod Groups
pub mod Parts
pub mod Moments
pub mod LegalLaws
pub mod GroupLaws
pub mod InvariantLaws
pub mod PartLaws
