pub mod Columns
pub mod Descriptions
pub mod Each
pub mod Fields
pub mod Kinds
pub mod Listed
pub mod Versions
