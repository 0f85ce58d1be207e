-- The laws of the bounds as they are filled that the crate's own proofs and the crates above cite.
pub mod Bounds
