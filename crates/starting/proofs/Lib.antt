-- The laws of a start that the crate's own proofs and the crates above cite.
pub mod Starts
