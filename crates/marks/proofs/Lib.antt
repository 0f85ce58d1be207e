-- The laws of lists of marks and of stretches that the crate's own proofs and the crates above cite.
pub mod Stretches
