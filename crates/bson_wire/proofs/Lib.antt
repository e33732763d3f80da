pub mod Payloads
pub mod Loop
pub mod Written
pub mod PlainWritten
pub mod Lengths
pub mod Canonical
pub mod WriteLemmas
