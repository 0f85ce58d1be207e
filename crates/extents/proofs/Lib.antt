-- The laws of extents that the crate's own proofs and the crates above cite.
pub mod Extents
pub mod Stray
