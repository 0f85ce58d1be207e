-- The laws of the equations that the crate's own proofs and the crates above cite.
pub mod Minima
pub mod Stretches
pub mod Page
