-- The laws of carried copies that the crate's own proofs and the crates above cite.
pub mod Copies
