-- The laws of the walk that the crate's own proofs and the crates above cite.
pub mod Steps
