-- The laws of sheets that the crate's own proofs and the crates above cite.
pub mod Lookups
pub mod Weights
pub mod Readings
pub mod Closed
pub mod Alike
