-- The laws of rows of verifications that the crate's own proofs and the crates above cite.
pub mod Rows
