-- The laws of jobs that the crate's own proofs and the crates above cite.
pub mod Weights
pub mod Ranges
pub mod Heaviest
