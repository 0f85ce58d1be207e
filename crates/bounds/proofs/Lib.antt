-- The laws of the bounds in their table that the crate's own proofs and the crates above cite.
pub mod Bounds
