-- The laws of kinds that the crate's own proofs and the crates above cite.
pub mod Indices
pub mod Lengths
