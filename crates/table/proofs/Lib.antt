-- The laws of the table that the crate's own proofs and the crates above cite.
pub mod Pairs
pub mod Table
