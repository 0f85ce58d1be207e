-- The laws of a state's rules that the crate's own proofs and the crates above cite.
pub mod Copies
pub mod Soundness
