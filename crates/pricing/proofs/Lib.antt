-- The laws of prices that the crate's own proofs and the crates above cite.
pub mod Prices
pub mod Settings
pub mod Progresses
