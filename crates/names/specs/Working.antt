-- Definitions that proofs work with and that no reader has to believe.
pub mod Ready
