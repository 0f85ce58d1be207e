-- The laws of logs that the crate's own proofs and the crates above cite.
pub mod Records
pub mod Once
