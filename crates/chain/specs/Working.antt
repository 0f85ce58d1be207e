-- Definitions that proofs work with and that no reader has to believe.
pub mod Search
pub mod Factors
pub mod Same
pub mod Walk
pub mod Bounds
