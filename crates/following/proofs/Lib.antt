-- The laws of a step that the crate's own proofs and the crates above cite.
pub mod Steps
pub mod Unbroken
pub mod Carries
