-- The laws of costs that the crate's own proofs and the crates above cite.
pub mod Ranges
pub mod Stretches
pub mod Dearer
pub mod Settings
pub mod Powered
